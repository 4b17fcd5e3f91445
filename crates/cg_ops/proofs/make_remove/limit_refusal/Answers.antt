use Rattle.std.proofs.Common.{sym, ◌∙◌}
use Rattle.cg_ops.proofs.LevelBars.{limits_free, limits_nearest}
use Rattle.cg_ops.proofs.make_remove.limit_refusal.Goals as goal

pub returns-in_err-nearest : goal.returns-in_err-nearest
returns-in_err-nearest g c =
    c.from_residual.ensures ∙ sym
    (limits_free (g.H.Hierarchy.state c.args.tree.now) c.args.path.now c.parent_len.result c.parent_len.ensures c.in_err-nearest.ensures)

pub returns : goal.returns
returns g c =
    c.level_refusal.ensures ∙ sym (limits_nearest (g.H.Hierarchy.state c.args.tree.now) c.args.path.now c.parent_len.result
    c.parent_len.ensures c.in_ok-nearest.nearest c.in_ok-nearest.ensures)
