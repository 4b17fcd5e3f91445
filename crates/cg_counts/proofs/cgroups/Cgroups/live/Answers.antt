use Rattle.std.proofs.Common.{take, ap, sym, ◌∙◌, Some, option_map}
use Rattle.cg_places.specs.Nodes.{node_at}
use Rattle.cg_counts.specs.Kept.{held_of}
use Rattle.cg_counts.proofs.Read.{held_is}
use Rattle.cg_counts.proofs.cgroups.Cgroups.live.Goals as goal

pub returns : goal.returns
returns c =
    let nodes = c.self.inside.nodes in
    let q = take c.args.len c.args.path.now in
    ap (option_map (λ held. held.live)) (held_is c.self.inside.places nodes c.args.self.now c.self.view_is q
    ∙ ap (option_map (λ i. held_of (node_at nodes i))) c.number-place.ensures) ∙ ap Some (sym c.live.ensures)
