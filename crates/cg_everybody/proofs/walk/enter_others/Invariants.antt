use Rattle.std.proofs.Common.{◌≡◌, ◌++◌, map, drop, length}
use Rattle.std.specs.List.{flat_map}
use Rattle.cg_model.specs.Guards.{guarded_entries}
use Rattle.cg_everybody.specs.Everybody.{everybody_of, entrance_of}
use Rattle.cg_everybody.specs.Entrances.{entrance_spot}
use Rattle.cg_everybody.proofs.walk.enter_others.Given as goal

-- with those that are still to come, all
abbrev pub invariant-loop-place : goal.invariant-loop-place
invariant-loop-place g l =
    map entrance_spot l.found.items
    ++ flat_map (entrance_of (g.H.Hierarchy.state l.tree) (everybody_of l.asked) l.subtree) (drop l.place (guarded_entries l.subtree))
    ≡ map entrance_spot l.fn.found.items
    ++ flat_map (entrance_of (g.H.Hierarchy.state l.tree) (everybody_of l.asked) l.subtree)
    (drop (length l.subtree) (guarded_entries l.subtree))
