use Rattle.cg_counts.proofs.Changed.{kept_live, held_live}
use Rattle.cg_counts.proofs.cgroups.Cgroups.count_live.Goals as goal

pub invariant_of-self : goal.invariant_of-self
invariant_of-self c =
    kept_live c.self.inside.places c.self.inside.links.items c.self.inside.nodes c.self.invariant c.args.path.now c.whole-place.result
    c.whole-place.ensures c.args.tally _ c.count_live.ensures

pub returns : goal.returns
returns c =
    held_live c.self.inside.places c.self.inside.links.items c.self.inside.nodes c.self.invariant c.args.path.now c.whole-place.result
    c.whole-place.ensures c.args.tally _ c.count_live.ensures c.args.self.now c.self.view_is
