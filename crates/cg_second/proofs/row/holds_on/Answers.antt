use Rattle.std.proofs.lemmas.Result.{IfOk-weaker}
use Rattle.std.proofs.Common.{◌∙◌}
use Rattle.cg_second.proofs.Rows.{row-fails, row-is}
use Rattle.cg_second.proofs.row.holds_on.Goals as goal

pub returns-then-not-keeps_limits : goal.returns-then-not-keeps_limits
returns-then-not-keeps_limits g c =
    let s = c.args.survey.now in
    row-fails (g.H.Hierarchy.state s.tree.now) s.users.now c.args.subtree.now c.keeps_limits.result c.keeps_limits.ensures
    c.if-not-keeps_limits.true

pub returns : goal.returns
returns g c =
    let s = c.args.survey.now in
    IfOk-weaker c.is_shut_in.result _ _ (λ holds is. is
    ∙ row-is (g.H.Hierarchy.state s.tree.now) s.users.now c.args.subtree.now c.keeps_limits.result c.keeps_limits.ensures
    c.if-not-keeps_limits.false) c.is_shut_in.ensures
