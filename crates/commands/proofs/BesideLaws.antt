-- What stands beside an answer, through a buffer.
use Rattle.std.proofs.Common.{ℕ, List, sym, subst, inl, inr}
use Rattle.std.specs.Prelude.{Option, Result, Ok, Err, IfOk}
use Rattle.arguments.specs.Words.{Makes}
use Rattle.arguments.specs.declared.request.Request.{Request}
use Rattle.cg_faults.specs.declared.fault.CliFault.{CliFault}
use Rattle.cg_help.specs.declared.beside.Beside.{Beside}
use Rattle.commands.specs.Beside.{IsNotedFor, IsBeside}
use Rattle.commands.specs.Requests.{Files}
use Rattle.commands.specs.Runs.{IsFlushed, in_program}

pub flushed_keeps : (P : Type 0) (ended result : Result ℕ CliFault) → IsFlushed ended result → IfOk ended (λ _. P) → IfOk result (λ _. P)
flushed_keeps P (Ok status) result (inl e) holds = subst (λ (r : Result ℕ CliFault). IfOk r (λ _. P)) (sym e) holds
flushed_keeps P (Ok status) result (inr e) holds = subst (λ (r : Result ℕ CliFault). IfOk r (λ _. P)) (sym e) tt
flushed_keeps P (Err fault) result e holds = subst (λ (r : Result ℕ CliFault). IfOk r (λ _. P)) (sym e) tt

pub beside_of : (words : List (List ℕ)) (files : Files) (given : Option (List ℕ)) (asked : Request) (ended : Result ℕ CliFault)
    (beside : Beside) → Makes words asked → IfOk ended (λ _. IsNotedFor asked files given beside)
    → IsBeside words files given (in_program ended) beside
beside_of words files given asked (Ok status) beside makes holds = (asked, makes, holds)
beside_of words files given asked (Err fault) beside makes holds = tt
