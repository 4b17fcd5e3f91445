use Rattle.std.proofs.Common.{◌∙◌}
use Rattle.cg_guards.proofs.FirstFailed.{descendants_row}
use Rattle.cg_guards.proofs.failed.fits_descendants.Goals as goal

pub returns : goal.returns
returns g c =
    c.is_within_limit.ensures
    ∙ descendants_row (g.H.Hierarchy.state c.args.tree.now) c.args.subtree.now c.args.cgroup.now c.depth.result c.count_below-count.result
    c.requires c.depth.ensures.depth c.count_below-count.ensures
