use Rattle.std.proofs.Common.{ap, take, ◌∙◌}
use Rattle.cg_model.specs.States.{count_below}
use Rattle.cg_rows.proofs.Below.{count_found}
use Rattle.cg_rows.proofs.rows.RowsHierarchy.count_below.Goals as goal

pub returns : goal.returns
returns c =
    let p = take c.args.len c.args.path.now in
    count_found c.self.inside.rows p _ c.below.ensures ∙ ap (λ s. count_below s p) c.self.view_is
