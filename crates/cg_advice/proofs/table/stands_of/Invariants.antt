use Rattle.std.proofs.Common.{◌≡◌, ◌++◌, map, drop}
use Rattle.std.specs.List.{All, flat_map}
use Rattle.cg_model.specs.Guards.{guarded_entries}
use Rattle.cg_advice.specs.Ways.{no_ways}
use Rattle.cg_advice.specs.Thinned.{spot_of, spots_of, spots}
use Rattle.cg_advice.proofs.table.stands_of.Given as goal

-- with those that are still to come, all
abbrev pub invariant-loop-place : goal.invariant-loop-place
invariant-loop-place g l =
    (map spot_of l.stands.items
    ++ flat_map (spots_of (g.H.Hierarchy.state l.tree) l.subtree) (drop l.place (guarded_entries l.subtree))
    ≡ spots (g.H.Hierarchy.state l.tree) l.subtree)
    × All (λ stand. stand.ways ≡ no_ways) l.stands.items
