use Rattle.std.proofs.Common.{take, ap, sym, ◌∙◌, nat_lt}
use Rattle.cg_places.specs.Nodes.{uses_of}
use Rattle.cg_counts.proofs.Read.{child_enables_is}
use Rattle.cg_counts.proofs.cgroups.Cgroups.child_enables.Goals as goal

pub returns : goal.returns
returns c =
    let q = take c.args.len c.args.path.now in
    ap (nat_lt 0) (c.of.ensures ∙ ap (λ uses. uses_of uses c.args.controller) c.uses.ensures
    ∙ c.self.invariant.uses q c.number-place.result c.number-place.ensures c.args.controller)
    ∙ sym (child_enables_is c.self.inside.places c.self.inside.nodes c.args.self.now c.self.view_is q c.args.controller)
