-- What a text says beside a status, by how the program ended.
use Rattle.std.proofs.Common.{◌≡◌, ◌≢◌, ◌⊎◌, ℕ, List, [], Option, Some, None, Result, Ok, Err, IfSome, IfOk, IsErrAnd, MatchOption, MatchResult, sym, ◌∙◌, subst, inl, inr}
use Rattle.cg_faults.specs.declared.fault.CliFault.TheVariants.{NoMemory}
use Rattle.cg_help.specs.declared.beside.Beside.{Beside}
use Rattle.commands.specs.Requests.{Files}
use Rattle.commands.specs.Runs.{exit_status, Tells, RunsTo}
use Rattle.commands.specs.declared.fault.Fault.{Fault}
use Rattle.commands.specs.declared.fault.Fault.TheVariants.{Cli}
use Rattle.commands.specs.declared.fault.Untold.{Untold}
use Rattle.streams.specs.declared.write.WriteFailed.{WriteFailed}
use Rattle.library.specs.Calls.{memory_line, Answers, TellsWhy}

three_is_not_zero : ◌≢◌ {A = ℕ} 3 0
three_is_not_zero is = cc

module _ (files : Files) (given : Option (List ℕ)) where
  abbrev RunsSo : List (List ℕ) → List ℕ → List ℕ → Result ℕ Fault → Type 0
  RunsSo words old new answer = (written : Result (Unit {0}) WriteFailed) × RunsTo words files given (Some old) (Some new) answer written

  same_run : (words words' : List (List ℕ)) (old old' new new' : List ℕ) (status status' : ℕ)
      → words ≡ words' → old ≡ old' → new ≡ new' → status ≡ status'
      → RunsSo words old new (Ok status) → RunsSo words' old' new' (Ok status')
  same_run words words' old old' new new' status status' e f g h runs =
      subst (λ (s : ℕ). RunsSo words' old' new' (Ok s)) h
      (subst (λ (n : List ℕ). RunsSo words' old' n (Ok status)) g
      (subst (λ (o : List ℕ). RunsSo words' o new (Ok status)) f
      (subst (λ (w : List (List ℕ)). RunsSo w old new (Ok status)) e runs)))

  module _ {W E P : Type 0} (seen : W → List (List ℕ)) (of : P → List ℕ) (Noted : W → Result ℕ Fault → Type 0) (Unread : P → Type 0)
      (Failed : E → Fault → Type 0) where
    -- what is known of the writer that is left
    abbrev Left : List ℕ → Result ℕ Fault → Result W E → Option P → Type 0
    Left old answer words out =
        MatchOption out (answer ≡ Err (Cli NoMemory)) (λ below. MatchResult words
        (λ found. (written : Result (Unit {0}) WriteFailed) × RunsTo (seen found) files given (Some old) (Some (of below)) answer written
        × Noted found answer)
        (λ error. Unread below × IsErrAnd answer (Failed error)))

    -- beside a status that is no fault's the text is what a run on the words writes
    pub answers : (lines : List (List ℕ)) (old text : List ℕ) (status : ℕ) (answer : Result ℕ Fault) (words : Result W E) (out : Option P)
        → status ≢ 3 → status ≡ exit_status answer → old ≡ [] → Left old answer words out → IfSome out (λ page. text ≡ of page)
        → IfOk words (λ found. seen found ≡ lines) → Answers lines files given status text
    answers lines old text status (Err fault) words out other is empty left said read = absurd (other is)
    answers lines old text status (Ok found) words None other is empty left said read = cc
    answers lines old text status (Ok found) (Err error) (Some page) other is empty left said read = absurd left.1
    answers lines old text status (Ok found) (Ok these) (Some page) other is empty left said read =
        same_run (seen these) lines old [] (of page) text found status read empty (sym said) (sym is) (left.0, left.1)

    -- where there are no words the status is that of a fault, and so what status 0 means of words, it means of the text that has them
    pub means : (Means : List (List ℕ) → Type 0) (lines : List (List ℕ)) (old : List ℕ) (status : ℕ) (answer : Result ℕ Fault)
        (words : Result W E) (out : Option P) → ((status ≡ 0 → ⊥) → Means lines) → status ≡ exit_status answer → Left old answer words out
        → IfOk words (λ found. Means (seen found)) → IfOk words (λ found. seen found ≡ lines) → Means lines
    means Means lines old status answer (Ok found) out none is left meant said = subst Means said meant
    means Means lines old status (Err fault) (Err error) out none is left meant said = none (λ zero. three_is_not_zero (sym is ∙ zero))
    means Means lines old status (Ok found) (Err error) None none is left meant said = let never : ⊥ = cc in absurd never
    means Means lines old status (Ok found) (Err error) (Some page) none is left meant said = absurd left.1

-- beside that of a fault the text is what is told of it, or that there was no memory
pub tells_why : (old errors text : List ℕ) (status : ℕ) (answer : Result ℕ Fault) (beside : Beside) (told : Result (Unit {0}) Untold)
    → status ≡ exit_status answer → old ≡ [] → Tells answer beside (Some old) (Some errors) told → (text ≡ errors) ⊎ (text ≡ memory_line)
    → TellsWhy status text
tells_why old errors text status answer beside told is empty tells (inl e) =
    inl (
      answer,
      beside,
      told,
      is,
      subst (λ (t : List ℕ). Tells answer beside (Some []) (Some t) told) (sym e)
          (subst (λ (o : List ℕ). Tells answer beside (Some o) (Some errors) told) empty tells),
    )
tells_why old errors text status answer beside told is empty tells (inr e) = inr e
