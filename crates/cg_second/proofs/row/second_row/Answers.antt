use Rattle.std.proofs.lemmas.Result.{IfOk-weaker}
use Rattle.std.proofs.Common.{◌∙◌}
use Rattle.cg_second.specs.Exposed.{is_shut_in}
use Rattle.cg_second.proofs.Rows.{row-fails, row-is}
use Rattle.cg_second.proofs.row.second_row.Goals as goal

pub returns-then-not-keeps_limits : goal.returns-then-not-keeps_limits
returns-then-not-keeps_limits g c =
    row-fails (g.H.Hierarchy.state c.args.tree.now) c.args.users.now c.args.subtree.now c.keeps_limits.result c.keeps_limits.ensures
    c.if-not-keeps_limits.true

pub returns : goal.returns
returns g c =
    let survey = c.in_ok-survey.ensures in
    let subtree = c.args.subtree.now in
    IfOk-weaker c.is_shut_in.result _ _ (λ holds is. is
    ∙ (λ i. is_shut_in (g.H.Hierarchy.state (survey.tree i)) (survey.users i) subtree)
    ∙ row-is (g.H.Hierarchy.state c.args.tree.now) c.args.users.now subtree c.keeps_limits.result c.keeps_limits.ensures
    c.if-not-keeps_limits.false) c.is_shut_in.ensures
