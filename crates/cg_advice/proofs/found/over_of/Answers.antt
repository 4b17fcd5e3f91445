use Rattle.std.proofs.Common.{sym, ◌∙◌}
use Rattle.cg_cgroup.specs.declared.files.LimitFile.TheVariants.{MaxDescendants, MaxDepth}
use Rattle.cg_model.specs.Limits.{fits_descendants, fits_depth}
use Rattle.cg_model.specs.States.{count_below, depth_below}
use Rattle.cg_advice.proofs.Founding.{over_is, excess_raised}
use Rattle.cg_advice.proofs.Written.{raised_by}
use Rattle.cg_advice.proofs.found.over_of.Goals as goal

pub returns : goal.returns
returns g c =
    let st = g.H.Hierarchy.state c.args.tree.now in
    let subtree = c.args.subtree.now in
    over_is st subtree _ _
    (sym c.is_over.ensures ∙ c.if-not-is_over.false)
    (excess_raised subtree MaxDescendants _ _ _ c.excess-descendants.ensures
    ∙ raised_by subtree MaxDescendants (count_below st) _ (fits_descendants st subtree) c.depth-len.result _ c.depth-len.ensures.depth
    c.fits_descendants-fits.ensures c.count_below-count.ensures)
    (excess_raised subtree MaxDepth _ _ _ c.excess-depth.ensures
    ∙ raised_by subtree MaxDepth (depth_below st) _ (fits_depth st subtree) c.depth-len.result _ c.depth-len.ensures.depth
    c.fits_depth-fits.ensures c.depth_below-levels.ensures)
