use Rattle.std.proofs.Common.{ap, sym, ◌∙◌, subst}
use Rattle.std.specs.Option.{MatchOption}
use Rattle.cg_model.specs.NearestFull.{NoneIsFull, IsNearestFull}
use Rattle.cg_places.specs.Links.{climbed}
use Rattle.cg_counts.specs.Kept.{tree_of}
use Rattle.cg_counts.proofs.Limits.{climb_finds}
use Rattle.cg_counts.proofs.Read.{full_is}
use Rattle.cg_counts.proofs.cgroups.Cgroups.nearest_full.Goals as goal

pub returns : goal.returns
returns c =
    let links = c.self.inside.links.items in
    let path = c.args.path.now in
    let found = c.climb.ensures ∙ ap (λ ls. climbed ls c.args.len c.number-place.result c.args.len) c.deref.ensures.value in
    subst
    (λ o. MatchOption o (NoneIsFull (tree_of c.args.self.now) path c.args.len) (IsNearestFull (tree_of c.args.self.now) path c.args.len))
    (sym found)
    (climb_finds c.self.inside.places links c.self.invariant.placed (tree_of c.args.self.now) path c.args.len
    (full_is c.self.inside.places c.self.inside.nodes c.args.self.now c.self.view_is links c.self.invariant path c.args.len)
    c.number-place.result c.requires.within c.number-place.ensures)
