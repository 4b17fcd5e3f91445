use Rattle.std.proofs.Common.{ap, sym, take, ◌∙◌}
use Rattle.std.proofs.lemmas.List.{length-take-le}
use Rattle.cg_model.specs.States.{depth_below}
use Rattle.cg_rows.proofs.Below.{depth_found}
use Rattle.cg_rows.proofs.rows.RowsHierarchy.depth_below.Goals as goal

pub returns : goal.returns
returns c =
    let p = take c.args.len c.args.path.now in
    c.deepest.ensures
    ∙ depth_found c.self.inside.rows p c.args.len _ c.below.ensures (sym (length-take-le c.args.len c.args.path.now c.requires.within))
    ∙ ap (λ s. depth_below s p) c.self.view_is
