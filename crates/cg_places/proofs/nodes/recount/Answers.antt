use Rattle.std.proofs.Common.{ap, ◌∙◌, slice_set}
use Rattle.cg_places.specs.Nodes.{node_at, with_uses, uses_after}
use Rattle.cg_places.proofs.nodes.recount.Goals as goal

pub returns : goal.returns
returns c =
    c.set_uses.ensures
    ∙ ap (λ uses. slice_set c.args.nodes.now c.args.at (with_uses uses (node_at c.args.nodes.now c.args.at)))
    (c.after.ensures ∙ ap (uses_after c.args.had c.args.has) c.uses-uses.ensures)
