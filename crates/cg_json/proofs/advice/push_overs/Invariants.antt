use Rattle.std.proofs.Common.{◌≡◌, ◌++◌, map, take}
use Rattle.serde_json.specs.View.{view}
use Rattle.cg_advice.specs.Found.{over_raised}
use Rattle.cg_json.specs.Advice.{over_value}
use Rattle.cg_json.proofs.advice.push_overs.Given as goal

abbrev pub invariant-loop-over : goal.invariant-loop-over
invariant-loop-over l =
    map view l.list.items ≡ map view l.fn.list.items ++ map (λ over. over_value (over_raised over)) (take l.over-index l.overs)
