use Rattle.std.proofs.Common.{ap, sym, ◌∙◌, Some}
use Rattle.std.specs.Option.{option_map}
use Rattle.cg_places.specs.Nodes.{node_at}
use Rattle.cg_counts.proofs.Read.{row_is}
use Rattle.cg_counts.proofs.cgroups.Cgroups.cgroup.Goals as goal

pub returns : goal.returns
returns c =
    let nodes = c.self.inside.nodes in
    ap Some c.cgroup.ensures
    ∙ sym (row_is c.self.inside.places nodes c.args.self.now c.self.view_is c.args.path.now
    ∙ ap (option_map (λ i. (node_at nodes i).cgroup)) c.whole.ensures)
