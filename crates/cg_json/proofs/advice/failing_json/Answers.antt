use Rattle.std.proofs.Common.{◌≡◌, ◌<◌, false, map, sym, subst, arith}
use Rattle.cg_advice.specs.Found.{stand_let, over_raised}
use Rattle.serde_json.specs.Data.{members_depth}
use Rattle.serde_json.specs.Read.{max_depth}
use Rattle.serde_json.specs.Written.{members_have_float}
use Rattle.cg_json.proofs.Plain.{shallow}
use Rattle.cg_json.proofs.PlainAdvice.{failing_plain}
use Rattle.cg_json.proofs.advice.failing_json.Goals as goal

pub line_of-requires-clause-exact : goal.line_of-requires-clause-exact
line_of-requires-clause-exact c =
    subst (λ ms. members_have_float ms ≡ false) (sym c.in_ok-members.ensures)
    (failing_plain (map stand_let c.args.stands.now) (map over_raised c.args.overs.now)).exact

pub line_of-requires-clause-within : goal.line_of-requires-clause-within
line_of-requires-clause-within c =
    subst (λ ms. members_depth ms < max_depth) (sym c.in_ok-members.ensures)
    (shallow _ 4 (omega arith) (failing_plain (map stand_let c.args.stands.now) (map over_raised c.args.overs.now)))
