use Rattle.cg_cli.proofs.SettleReports.{settled_is_shown}
use Rattle.cg_cli.proofs.as_json.check.SettlingQuestion.answer.Goals as goal

pub answer_line-requires : goal.answer_line-requires
answer_line-requires g c =
    settled_is_shown (g.H.Hierarchy.state c.args.tree.now) c.args.user.now c.args.subtree.now c.in_ok-answer.answer
    c.in_ok-answer.ensures.settled
