-- What is read of a line, and what follows it.
use Rattle.std.proofs.Common.{◌≡◌, ◌≢◌, ℕ, ◌+◌, ◌<◌, ◌≤◌, true, false, nat_lt, List, length, Some, None, Ok, Err, refl, ap, sym, ◌∙◌, arith}
use Rattle.std.proofs.lemmas.Bool.Decides.{nat_tests}
use Rattle.cg_cgroup.specs.Identity.{Identity}
use Rattle.cg_model.specs.States.{State}
use Rattle.cg_model.specs.Clauses.{first}
use Rattle.cg_model.specs.Bars.{bars}
use Rattle.cg_model.specs.Outcomes.{RefusedBy}
use Rattle.cg_model.specs.declared.operation.Op.{Op}
use Rattle.cg_model.specs.declared.outcome.Outcome.{Outcome}
use Rattle.cg_model.specs.declared.outcome.Outcome.TheVariants.{Done, Refused}
use Rattle.cg_lines.specs.OperationLines.{spelling, IsInRange}
use Rattle.cg_lines.specs.LineReading.{operation_at}
use Rattle.cg_lines.specs.declared.lines.fault.LineFault.TheVariants.{TooLong, BadWord}
use Rattle.cg_lines.proofs.LineLaws.{line_again, nothing_read}
use Rattle.cg_cli.specs.Replays.{outcome_by, outcome_of, operation_read}
use Rattle.cg_faults.specs.declared.fault.CliFault.TheVariants.{Line}
use Rattle.cg_cgroup.specs.declared.files.Vocabulary.{Vocabulary}

-- ---- what is read

pub operation_read_ok : (vocabulary : Vocabulary) (done : ℕ) (line : List ℕ) (op : Op) → done < 65536 → length line ≤ 8192 → line
    ≡ spelling op → IsInRange vocabulary op
    → operation_read vocabulary done line ≡ Ok op
operation_read_ok vocabulary done line op few short spelled held =
    let a : nat_lt done 65536 ≡ true = grind (arith, nat_tests) in
    let b : nat_lt 8192 (length line) ≡ false = grind (arith, nat_tests) in
    let e : operation_at vocabulary line ≡ Some op = ap (operation_at vocabulary) spelled ∙ line_again vocabulary op held in
    rw (a, b, e) refl

pub operation_read_bad : (vocabulary : Vocabulary) (done : ℕ) (line : List ℕ) → done < 65536 → length line ≤ 8192 → ((op : Op)
    → IsInRange vocabulary op → line ≢ spelling op)
    → operation_read vocabulary done line ≡ Err (Line (done + 1) BadWord)
operation_read_bad vocabulary done line few short none =
    let a : nat_lt done 65536 ≡ true = grind (arith, nat_tests) in
    let b : nat_lt 8192 (length line) ≡ false = grind (arith, nat_tests) in
    let e : operation_at vocabulary line ≡ None = nothing_read vocabulary line none in
    rw (a, b, e) refl

pub operation_read_long : (vocabulary : Vocabulary) (done : ℕ) (line : List ℕ) → done < 65536 → 8192 < length line
    → operation_read vocabulary done line ≡ Err (Line (done + 1) TooLong)
operation_read_long vocabulary done line few long =
    let a : nat_lt done 65536 ≡ true = grind (arith, nat_tests) in
    let b : nat_lt 8192 (length line) ≡ true = grind (arith, nat_tests) in
    rw (a, b) refl

-- ---- what follows

pub outcome_is : (st : State) (user : Identity) (op : Op) (outcome : Outcome) → RefusedBy outcome (first (bars st user op))
    → outcome ≡ outcome_of st user op
outcome_is st user op Done none = ap outcome_by (sym none)
outcome_is st user op (Refused bar) barred = ap outcome_by (sym barred)
