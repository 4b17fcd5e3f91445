use Rattle.std.proofs.Common.{◌≡◌, sym, ap, ◌∙◌, ◌++◌, option_to_list, string_bytes}
use Rattle.cg_cgroup.specs.declared.files.LimitFile.TheVariants.{MaxDescendants, MaxDepth}
use Rattle.cg_model.specs.Limits.{fits_descendants, fits_depth}
use Rattle.cg_model.specs.States.{count_below, depth_below}
use Rattle.cg_advice.proofs.Written.{raised_by, over_written}
use Rattle.cg_advice.proofs.text.push_limits.Goals as goal

pub returns : goal.returns
returns g c =
    let st = g.H.Hierarchy.state c.args.tree.now in
    let subtree = c.args.subtree.now in
    let written : c.into_bytes-line.result.items ≡ string_bytes c.in_ok-over_line.field-0 =
    ap (λ v. v.items) c.into_bytes-line.ensures.value in
    over_written st subtree c.args.text.now.items c.extend_from_slice.new.self.items c.push_mend.new.text.items c.push_mend-2.new.text.items
    (option_to_list c.raised-descendants.result) (option_to_list c.raised-depth.result)
    (sym c.is_over.ensures ∙ c.if-not-is_over.false)
    (c.in_ok-extend_from_slice.ensures.items
    ∙ ap (λ bytes. c.args.text.now.items ++ bytes) (c.as_slice.ensures.value ∙ written ∙ c.in_ok-over_line.ensures))
    c.in_ok-push_mend.ensures c.in_ok-push_mend-2.ensures
    (c.raised-descendants.ensures.mend
    ∙ raised_by subtree MaxDescendants (count_below st) _ (fits_descendants st subtree) c.depth-len.result _ c.depth-len.ensures.depth
    c.fits_descendants-fits.ensures c.count_below-count.ensures)
    (c.raised-depth.ensures.mend
    ∙ raised_by subtree MaxDepth (depth_below st) _ (fits_depth st subtree) c.depth-len.result _ c.depth-len.ensures.depth
    c.fits_depth-fits.ensures c.depth_below-levels.ensures)
