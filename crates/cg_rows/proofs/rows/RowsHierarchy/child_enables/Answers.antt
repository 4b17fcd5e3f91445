use Rattle.std.proofs.Common.{ap, take, ◌∙◌}
use Rattle.cg_model.specs.States.{child_enables}
use Rattle.cg_cgroup.specs.Files.{enables}
use Rattle.cg_rows.proofs.Below.{any_below}
use Rattle.cg_rows.proofs.rows.RowsHierarchy.child_enables.Goals as goal

pub returns : goal.returns
returns c =
    let p = take c.args.len c.args.path.now in
    any_below c.self.inside.rows p (λ e. enables e.1.enabled c.args.controller) _ _ c.below.ensures c.any_child_enables.ensures
    ∙ ap (λ s. child_enables s p c.args.controller) c.self.view_is
