-- How a terminal is told that it is waited for.
use Rattle.std.proofs.Common.{◌≡◌, ◌∙◌, ℕ, Bool, true, false, List, sym, ap, subst, refl, inl, inr}
use Rattle.std.specs.Prelude.{Option, Result, Ok, Err, IsErrAnd}
use Rattle.std.proofs.lemmas.Result.{err_from_is_err_and}
use Rattle.std.specs.Io.KnownBytes.{Appends}
use Rattle.streams.specs.Written.{AppendsPart}
use Rattle.arguments.specs.Words.{Makes, IsNone}
use Rattle.arguments.specs.declared.request.Request.{Request}
use Rattle.cg_faults.specs.declared.fault.CliFault.{CliFault}
use Rattle.cg_faults.specs.declared.fault.CliFault.TheVariants.{Write, NoMemory}
use Rattle.cg_help.specs.Waiting.{waiting_line}
use Rattle.commands.specs.Waiting.{TellsWaiting}
use Rattle.commands.proofs.RequestLaws.{Keeps-refl}

pub silent : (is_terminal : Bool) (words : List (List ℕ)) (known : Option (List ℕ)) → is_terminal ≡ false
    → TellsWaiting words is_terminal known known (Ok tt)
silent true words known shut = let never : ⊥ = cc in absurd never
silent false words known shut = (refl, Keeps-refl known)

-- what is told of a terminal
pub heard : (is_terminal : Bool) (words : List (List ℕ)) (old new : Option (List ℕ)) (result : Result (Unit {0}) CliFault)
    → is_terminal ≡ true → TellsWaiting words true old new result → TellsWaiting words is_terminal old new result
heard true words old new result terminal told = told
heard false words old new result terminal told = let never : ⊥ = cc in absurd never

pub refused : (words : List (List ℕ)) (known : Option (List ℕ)) (result : Result (Unit {0}) CliFault)
    → IsErrAnd result (λ found. found ≡ NoMemory) → TellsWaiting words true known known result
refused words known result is =
    let p = err_from_is_err_and result is in
    subst (TellsWaiting words true known known) (sym (p.1 ∙ ap (λ (it : CliFault). Err it) p.2)) (refl, Keeps-refl known)

pub cut : (words : List (List ℕ)) (asked : Request) (line : List ℕ) (old new : Option (List ℕ)) (result : Result (Unit {0}) CliFault)
    → Makes words asked → line ≡ waiting_line asked → AppendsPart old new line → IsErrAnd result (λ found. found ≡ Write)
    → TellsWaiting words true old new result
cut words asked line old new result makes said part is =
    let p = err_from_is_err_and result is in
    subst (TellsWaiting words true old new) (sym (p.1 ∙ ap (λ (it : CliFault). Err it) p.2))
    (asked, makes, subst (AppendsPart old new) said part)

pub told : (words : List (List ℕ)) (asked : Request) (line : List ℕ) (old new : Option (List ℕ)) → Makes words asked
    → line ≡ waiting_line asked → Appends old new line → TellsWaiting words true old new (Ok tt)
told words asked line old new makes said whole = inl (asked, makes, subst (Appends old new) said whole)

pub none : (words : List (List ℕ)) (known : Option (List ℕ)) → IsNone words → TellsWaiting words true known known (Ok tt)
none words known nothing = inr (nothing, Keeps-refl known)
