-- A command that ends before it has written anything.
use Rattle.std.proofs.Common.{◌≡◌, ◌∙◌, ℕ, List, refl, ap, inl, inr}
use Rattle.std.specs.Prelude.{◌⊎◌, Option, Some, None, MatchOption, Result, Ok, Err, IfOk, IsErrAnd}
use Rattle.std.proofs.lemmas.Result.{err_from_is_err_and}
use Rattle.std.specs.Io.KnownBytes.{Keeps}
use Rattle.cg_cgroup.specs.declared.files.Vocabulary.{Vocabulary}
use Rattle.cg_format.specs.Readings.{Reading, OnText, vocabulary_in}
use Rattle.cg_faults.specs.declared.fault.CliFault.{CliFault}
use Rattle.cg_faults.specs.declared.fault.CliFault.TheVariants.{Read, NoMemory}
use Rattle.cg_help.specs.Modes.{spelled_mode}
use Rattle.cg_help.specs.declared.beside.Beside.{Beside}
use Rattle.cg_cli.specs.Missing.{IsAbsentFrom}
use Rattle.cg_cli.specs.Strangers.{IsFirstStranger}
use Rattle.text_places.specs.declared.near.Missing.{Missing}
use Rattle.commands.specs.Beside.{IsStrangerOf, IsMissingIn, IsNoted, IsPlain}
use Rattle.commands.specs.Requests.{IsTree, IsUnread, OnTreeText}

pub Keeps-refl : (known : Option (List ℕ)) → Keeps known known
Keeps-refl None = tt
Keeps-refl (Some xs) = refl

pub unread : (known : Option (List ℕ)) (fault : CliFault) (result : Result ℕ CliFault) → result ≡ Err fault
    → (fault ≡ Read) ⊎ (fault ≡ NoMemory) → IsUnread known known result
unread known fault result is (inl e) = (inl (is ∙ ap (λ (it : CliFault). Err it) e), Keeps-refl known)
unread known fault result is (inr e) = (inr (is ∙ ap (λ (it : CliFault). Err it) e), Keeps-refl known)

-- one that hands on the fault it met
pub unread_by : (known : Option (List ℕ)) (fault : CliFault) (result : Result ℕ CliFault) → IsErrAnd result (λ found. found ≡ fault)
    → (fault ≡ Read) ⊎ (fault ≡ NoMemory) → IsUnread known known result
unread_by known fault result is early =
    let met = err_from_is_err_and result is in
    unread known fault result (met.1 ∙ ap (λ (it : CliFault). Err it) met.2) early

-- what is answered on the whole of a tree's text, or a command that ends before
pub on_whole : (known : Option (List ℕ)) (tree : List ℕ) (answers : Vocabulary → Reading → Type 0) (old new : Option (List ℕ))
    (result : Result ℕ CliFault) → IsTree known tree → OnText tree (answers (vocabulary_in tree)) ⊎ IsUnread old new result
    → OnTreeText known answers old new result
on_whole known tree answers old new result is (inl said) = inl (tree, is, said)
on_whole known tree answers old new result is (inr unread) = inr unread

-- what holds whatever is answered
on_answer : {P : Type 0} (result : Result ℕ CliFault) → P → IfOk result (λ _. P)
on_answer (Ok status) holds = holds
on_answer (Err fault) holds = tt

-- what was noted of a text of which neither users nor a path are asked about
pub plain_on : (known : Option (List ℕ)) (text : List ℕ) (beside : Beside) → IsTree known text → beside.mode ≡ spelled_mode text
    → beside.stranger ≡ None → beside.missing ≡ None → (result : Result ℕ CliFault) → IfOk result (λ _. IsPlain known beside)
plain_on known text beside is mode none whole result = on_answer {P = IsPlain known beside} result (text, is, mode, none, whole)

stranger_on : (text : List ℕ) (users : Option (List (ℕ × List ℕ))) (stranger : Option ℕ) (status : ℕ)
    → MatchOption users (stranger ≡ None) (λ given. IsFirstStranger text given (Ok status) stranger) → IsStrangerOf text users stranger
stranger_on text None stranger status none = none
stranger_on text (Some given) stranger status first = first

missing_on : (text : List ℕ) (path : Option (List ℕ)) (missing : Option Missing) (status : ℕ)
    → MatchOption path (missing ≡ None) (λ to. IsAbsentFrom text to (Ok status) missing) → IsMissingIn text path missing
missing_on text None missing status none = none
missing_on text (Some to) missing status absent = absent

-- what was noted of a text by an answer on it
pub noted_by : (known : Option (List ℕ)) (text : List ℕ) (users : Option (List (ℕ × List ℕ))) (path : Option (List ℕ)) (beside : Beside)
    → IsTree known text → beside.mode ≡ spelled_mode text → (result : Result ℕ CliFault)
    → MatchOption users (beside.stranger ≡ None) (λ given. IsFirstStranger text given result beside.stranger)
    → MatchOption path (beside.missing ≡ None) (λ to. IsAbsentFrom text to result beside.missing)
    → IfOk result (λ _. IsNoted known users path beside)
noted_by known text users path beside is mode (Ok status) first absent =
    (text, is, mode, stranger_on text users beside.stranger status first, missing_on text path beside.missing status absent)
noted_by known text users path beside is mode (Err fault) first absent = tt
