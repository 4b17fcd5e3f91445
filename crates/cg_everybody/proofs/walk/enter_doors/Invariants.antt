use Rattle.std.proofs.Common.{◌≡◌, ◌++◌, ◌-◌, map, take, length}
use Rattle.std.specs.List.{flat_map}
use Rattle.cg_model.specs.Guards.{ancestor, ancestors}
use Rattle.cg_everybody.specs.Everybody.{everybody_of, entrance_of}
use Rattle.cg_everybody.specs.Entrances.{entrance_spot}
use Rattle.cg_everybody.proofs.Entering.{backwards}
use Rattle.cg_everybody.proofs.walk.enter_doors.Given as goal

-- with those of the doors that are still to come, all
abbrev pub invariant-loop-turn : goal.invariant-loop-turn
invariant-loop-turn g l =
    map entrance_spot l.found.items
    ++ backwards (λ len. entrance_of (g.H.Hierarchy.state l.tree) (everybody_of l.asked) l.subtree (ancestor len))
    (take (length l.above - l.turn) l.above)
    ≡ map entrance_spot l.fn.found.items
    ++ flat_map (entrance_of (g.H.Hierarchy.state l.tree) (everybody_of l.asked) l.subtree) (ancestors (length l.subtree))
