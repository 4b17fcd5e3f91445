use Rattle.std.proofs.Common.{take, ap, sym, ◌∙◌, Some, option_map, arith}
use Rattle.cg_places.specs.Nodes.{node_at}
use Rattle.cg_counts.proofs.Read.{row_is}
use Rattle.cg_counts.proofs.cgroups.Cgroups.get.Goals as goal

pub cgroup-requires : goal.cgroup-requires
cgroup-requires c =
    let l = c.self.invariant.placed.within (take c.args.len c.args.path.now) c.in-Some.place (sym c.in-Some.ensures) in
    omega (arith, l, c.self.invariant.paired)

pub returns-in-Some : goal.returns-in-Some
returns-in-Some c =
    let nodes = c.self.inside.nodes in
    let q = take c.args.len c.args.path.now in
    ap Some c.cgroup.ensures ∙ ap (option_map (λ i. (node_at nodes i).cgroup)) c.in-Some.ensures
    ∙ sym (row_is c.self.inside.places nodes c.args.self.now c.self.view_is q)

pub returns-in-None : goal.returns-in-None
returns-in-None c =
    let nodes = c.self.inside.nodes in
    let q = take c.args.len c.args.path.now in
    ap (option_map (λ i. (node_at nodes i).cgroup)) c.in-None.ensures
    ∙ sym (row_is c.self.inside.places nodes c.args.self.now c.self.view_is q)
