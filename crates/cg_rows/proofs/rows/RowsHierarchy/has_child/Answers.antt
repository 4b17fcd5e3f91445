use Rattle.std.proofs.Common.{ap, take, ◌∙◌}
use Rattle.cg_model.specs.States.{has_child}
use Rattle.cg_rows.proofs.Below.{any_child_below}
use Rattle.cg_rows.proofs.rows.RowsHierarchy.has_child.Goals as goal

pub returns : goal.returns
returns c =
    let p = take c.args.len c.args.path.now in
    any_child_below c.self.inside.rows p _ _ c.below.ensures c.any_child.ensures ∙ ap (λ s. has_child s p) c.self.view_is
