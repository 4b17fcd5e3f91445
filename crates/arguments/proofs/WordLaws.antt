-- The request of matches is that of their words.
use Rattle.std.proofs.Common.{◌≡◌, ◌∙◌, List, [], ap, ap₂, sym, refl, subst, inl, inr, true}
use Rattle.std.specs.Prelude.{◌≢◌, ◌⊎◌, Option, Some, None, Result, Ok, Err, MatchResult, unwrap_or}
use Rattle.std.specs.Option.{option_map}
use Rattle.clap.specs.Values.{kind_of}
use Rattle.clap.specs.Kinds.{IsAmong, HasKind}
use Rattle.clap.specs.Matches.{subcommand_name_of}
use Rattle.clap.specs.Walk.{Row, Text, rows_of}
use Rattle.clap.specs.Simple.{App, is_simple, subcommand_of, subcommand_rows_of}
use Rattle.clap.specs.Faults.{fault_of, is_simple_and_free}
use Rattle.clap.specs.declared.error.Error.{Error}
use Rattle.clap.specs.declared.error.kind.ErrorKind.{ErrorKind}
use Rattle.clap.specs.declared.error.kind.ErrorKind.TheVariants.{DisplayHelp, DisplayVersion, OutOfMemory}
use Rattle.clap.specs.declared.parser.matches.ArgMatches.{ArgMatches}
use Rattle.clap.specs.declared.parser.matches.ArgMatches.TheViews.{out-ArgMatches}
use Rattle.clap.specs.declared.parser.matches.Found.{Found}
use Rattle.arguments.specs.CommandLine.{command_line}
use Rattle.arguments.specs.Given.{IsOf}
use Rattle.arguments.specs.Words.{IsNoMistake, Makes, IsNone}
use Rattle.arguments.specs.declared.fault.ArgumentsFault.{ArgumentsFault}
use Rattle.arguments.specs.declared.fault.ArgumentsFault.TheVariants.{Usage, NoMemory}
use Rattle.arguments.specs.declared.request.Request.{Request}
use Rattle.arguments.specs.declared.request.Request.TheVariants as request

pub simple : is_simple command_line ≡ true
simple = refl

pub simple_and_free : is_simple_and_free command_line ≡ true
simple_and_free = refl

-- ---- the command that was met, and the rows of its own options

pair_of : {A B : Type 0} (o : Option (A × B)) (a : A) (b : B) → option_map (λ (p : A × B). p.0) o ≡ Some a
    → option_map (λ (p : A × B). p.1) o ≡ Some b → o ≡ Some (a, b)
pair_of None a b first second = cc
pair_of (Some p) a b first second =
    ap₂ (λ x y. Some (x, y)) (ap (λ o. unwrap_or o p.0) first) (ap (λ o. unwrap_or o p.1) second)

no_pair : {A B : Type 0} (o : Option (A × B)) (b : B) → None ≡ option_map (λ (p : A × B). p.0) o
    → option_map (λ (p : A × B). p.1) o ≡ Some b → ⊥
no_pair None b first second = cc
no_pair (Some p) b first second = cc

firsts : {A B C : Type 0} (o : Option A) (name : A → B) (rest : A → C)
    → option_map (λ (p : B × C). p.0) (option_map (λ x. (name x, rest x)) o) ≡ option_map name o
firsts None name rest = refl
firsts (Some x) name rest = refl

name_is : (m : ArgMatches) → option_map (λ (p : Text × List Row). p.0) (subcommand_rows_of m) ≡ subcommand_name_of m
name_is m = firsts (out-ArgMatches m).subcommand _ _

module _ (words : List Text) (m : ArgMatches) (rows : subcommand_rows_of m ≡ subcommand_of command_line words) where
  met : (name : Text) (found : Found) → Some name ≡ subcommand_name_of m
      → option_map (λ (p : Text × List Row). p.1) (subcommand_rows_of m) ≡ Some (rows_of found)
      → subcommand_of command_line words ≡ Some (name, rows_of found)
  met name found is own = sym rows ∙ pair_of (subcommand_rows_of m) name (rows_of found) (name_is m ∙ sym is) own

  pub made : (asked : Request) → fault_of command_line words ≡ [] → IsOf m asked → Makes words asked
  made (request.Help help) fits h = absurd (no_pair (subcommand_rows_of m) (rows_of h.0) (h.1 ∙ sym (name_is m)) h.2)
  made (request.May may) fits h = (h.0, fits, met _ h.0 h.1 h.2, h.3)
  made (request.Check check) fits h = (h.0, fits, met _ h.0 h.1 h.2, h.3)
  made (request.Settle check) fits h = (h.0, fits, met _ h.0 h.1 h.2, h.3)
  made (request.Audit audit) fits h = (h.0, fits, met _ h.0 h.1 h.2, h.3)
  made (request.Everybody asked) fits h = (h.0, fits, met _ h.0 h.1 h.2, h.3)
  made (request.Subtrees asked) fits h = (h.0, fits, met _ h.0 h.1 h.2, h.3)
  made (request.AuditPairs pairs) fits h = (h.0, fits, met _ h.0 h.1 h.2, h.3)
  made (request.Explain explain) fits h = (h.0, fits, met _ h.0 h.1 h.2, h.3)
  made (request.ExplainPairs pairs) fits h = (h.0, fits, met _ h.0 h.1 h.2, h.3)
  made (request.Advise advise) fits h = (h.0, fits, met _ h.0 h.1 h.2, h.3)
  made (request.AdvisePairs pairs) fits h = (h.0, fits, met _ h.0 h.1 h.2, h.3)
  made (request.Replay replay) fits h = (h.0, fits, met _ h.0 h.1 h.2, h.3)
  made (request.Upgrade upgrade) fits h = (h.0, fits, met _ h.0 h.1 h.2, h.3)

  named : (name : Text) (found : Found) → subcommand_of command_line words ≡ Some (name, rows_of found)
      → Some name ≡ subcommand_name_of m
  named name found is = sym (ap (λ (o : Option (Text × List Row)). option_map (λ p. p.0) o) (rows ∙ is)) ∙ name_is m

  own : (name : Text) (found : Found) → subcommand_of command_line words ≡ Some (name, rows_of found)
      → option_map (λ (p : Text × List Row). p.1) (subcommand_rows_of m) ≡ Some (rows_of found)
  own name found is = ap (λ (o : Option (Text × List Row)). option_map (λ p. p.1) o) (rows ∙ is)

  of_made : (asked : Request) → fault_of command_line words ≡ [] → Makes words asked → IsOf m asked
  of_made (request.Help help) fits h = absurd (subst (IsAmong (kind_of help)) fits h.1)
  of_made (request.May may) fits h = (h.0, named _ h.0 h.2, own _ h.0 h.2, h.3)
  of_made (request.Check check) fits h = (h.0, named _ h.0 h.2, own _ h.0 h.2, h.3)
  of_made (request.Settle check) fits h = (h.0, named _ h.0 h.2, own _ h.0 h.2, h.3)
  of_made (request.Audit audit) fits h = (h.0, named _ h.0 h.2, own _ h.0 h.2, h.3)
  of_made (request.Everybody asked) fits h = (h.0, named _ h.0 h.2, own _ h.0 h.2, h.3)
  of_made (request.Subtrees asked) fits h = (h.0, named _ h.0 h.2, own _ h.0 h.2, h.3)
  of_made (request.AuditPairs pairs) fits h = (h.0, named _ h.0 h.2, own _ h.0 h.2, h.3)
  of_made (request.Explain explain) fits h = (h.0, named _ h.0 h.2, own _ h.0 h.2, h.3)
  of_made (request.ExplainPairs pairs) fits h = (h.0, named _ h.0 h.2, own _ h.0 h.2, h.3)
  of_made (request.Advise advise) fits h = (h.0, named _ h.0 h.2, own _ h.0 h.2, h.3)
  of_made (request.AdvisePairs pairs) fits h = (h.0, named _ h.0 h.2, own _ h.0 h.2, h.3)
  of_made (request.Replay replay) fits h = (h.0, named _ h.0 h.2, own _ h.0 h.2, h.3)
  of_made (request.Upgrade upgrade) fits h = (h.0, named _ h.0 h.2, own _ h.0 h.2, h.3)

  -- what the matches are read as, or that the words are no request
  pub request_of : (result : Result Request ArgumentsFault) → fault_of command_line words ≡ []
      → MatchResult result (IsOf m) (λ fault. fault ≢ NoMemory → (asked : Request) → IsOf m asked → ⊥)
      → MatchResult result (Makes words) (λ fault. fault ≢ NoMemory → IsNone words)
  request_of (Ok asked) fits h = made asked fits h
  request_of (Err fault) fits h = λ other. inr (λ asked made. h other asked (of_made asked fits made))

-- ---- words that `clap` doesn't take

-- what is shown, and not out of memory
pub shown_as : (words : List Text) (app : App) (error : Error) {kind : ErrorKind} → app ≡ command_line → kind ≡ kind_of error
    → (kind ≡ DisplayHelp) ⊎ (kind ≡ DisplayVersion) → HasKind (fault_of app words) error → Makes words (request.Help error)
shown_as words app error line is (inl shown) (inl memory) = cc
shown_as words app error line is (inr shown) (inl memory) = cc
shown_as words app error line is (inl shown) (inr among) =
    (inl (sym is ∙ shown), subst (λ it. IsAmong (kind_of error) (fault_of it words)) line among)
shown_as words app error line is (inr shown) (inr among) =
    (inr (sym is ∙ shown), subst (λ it. IsAmong (kind_of error) (fault_of it words)) line among)

pub mistaken : (words : List Text) (app : App) (error : Error) {kind : ErrorKind} → app ≡ command_line → kind ≡ kind_of error
    → kind ≢ DisplayHelp → kind ≢ DisplayVersion → (fault : ArgumentsFault)
    → ((fault ≡ Usage) × (kind_of error ≢ OutOfMemory)) ⊎ ((fault ≡ NoMemory) × (kind_of error ≡ OutOfMemory))
    → HasKind (fault_of app words) error → fault ≢ NoMemory → IsNone words
mistaken words app error line is help version fault from (inl memory) other =
    absurd (other (elim from [ inl usage ↦ absurd (usage.1 memory) | inr none ↦ none.0 ]))
mistaken words app error line is help version fault from (inr among) other =
    inl (kind_of error, not_shown, subst (λ it. IsAmong (kind_of error) (fault_of it words)) line among)
  where
    not_shown : IsNoMistake (kind_of error) → ⊥
    not_shown (inl e) = help (is ∙ e)
    not_shown (inr e) = version (is ∙ e)
