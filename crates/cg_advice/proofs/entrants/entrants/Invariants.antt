use Rattle.std.proofs.Common.{map, take}
use Rattle.cg_advice.specs.Ways.{pair_of, entering}
use Rattle.cg_advice.specs.Thinned.{HaveEntered}
use Rattle.cg_advice.proofs.entrants.entrants.Given as goal

abbrev pub invariant-loop-pair : goal.invariant-loop-pair
invariant-loop-pair g l =
    HaveEntered (g.H.Hierarchy.state l.tree) (map pair_of (take l.pair-index l.pairs)) (map entering l.entrants.items) l.tables.items
