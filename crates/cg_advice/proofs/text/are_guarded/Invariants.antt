use Rattle.std.proofs.Common.{◌≡◌, true, map, take}
use Rattle.std.specs.List.{list_all}
use Rattle.cg_advice.specs.AdviceLines.{is_pair_guarded}
use Rattle.cg_advice.specs.Ways.{pair_of}
use Rattle.cg_advice.proofs.text.are_guarded.Given as goal

abbrev pub invariant-loop-pair : goal.invariant-loop-pair
invariant-loop-pair g l = list_all (is_pair_guarded (g.H.Hierarchy.state l.tree)) (map pair_of (take l.pair-index l.pairs)) ≡ true
