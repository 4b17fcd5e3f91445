use Rattle.std.proofs.Common.{◌≡◌, map, take}
use Rattle.std.specs.List.{flat_map}
use Rattle.cg_everybody.specs.Everybody.{everybody_of, entrances}
use Rattle.cg_everybody.specs.Entrances.{entrance_spot, IsWalked}
use Rattle.cg_everybody.proofs.advice.all_entrances.Given as goal

abbrev pub invariant-loop-subtree : goal.invariant-loop-subtree
invariant-loop-subtree g l =
    (map entrance_spot l.found.items
    ≡ flat_map (entrances (g.H.Hierarchy.state l.tree) (everybody_of l.asked)) (take l.subtree-index l.subtrees))
    × IsWalked (g.H.Hierarchy.state l.tree) (everybody_of l.asked) l.walk
