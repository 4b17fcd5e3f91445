use Rattle.std.proofs.Common.{◌≡◌, ◌<◌, false, sym, subst, arith}
use Rattle.serde_json.specs.Data.{members_depth}
use Rattle.serde_json.specs.Read.{max_depth}
use Rattle.serde_json.specs.Written.{members_have_float}
use Rattle.cg_json.proofs.Plain.{shallow}
use Rattle.cg_json.proofs.PlainOutcomes.{permission_plain}
use Rattle.cg_json.proofs.outcome.permission_json.Goals as goal

pub line_of-requires-clause-exact : goal.line_of-requires-clause-exact
line_of-requires-clause-exact c =
    subst (λ ms. members_have_float ms ≡ false) (sym c.in_ok-members.ensures) (permission_plain c.args.op.now c.args.bar 1).exact

pub line_of-requires-clause-within : goal.line_of-requires-clause-within
line_of-requires-clause-within c =
    subst (λ ms. members_depth ms < max_depth) (sym c.in_ok-members.ensures)
    (shallow _ 1 (omega arith) (permission_plain c.args.op.now c.args.bar 1))
