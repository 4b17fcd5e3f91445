use Rattle.std.proofs.Common.{◌≡◌, ◌<◌, false, sym, subst, arith}
use Rattle.serde_json.specs.Data.{members_depth}
use Rattle.serde_json.specs.Read.{max_depth}
use Rattle.serde_json.specs.Written.{members_have_float}
use Rattle.cg_json.proofs.Plain.{answer_plain, shallow}
use Rattle.cg_json.proofs.answer.answer_json.Goals as goal

pub line_of-requires-clause-exact : goal.line_of-requires-clause-exact
line_of-requires-clause-exact c =
    subst (λ ms. members_have_float ms ≡ false) (sym c.in_ok-members.ensures) (answer_plain c.args.subtree.now c.args.answer.now).exact

pub line_of-requires-clause-within : goal.line_of-requires-clause-within
line_of-requires-clause-within c =
    subst (λ ms. members_depth ms < max_depth) (sym c.in_ok-members.ensures)
    (shallow _ 3 (omega arith) (answer_plain c.args.subtree.now c.args.answer.now))
