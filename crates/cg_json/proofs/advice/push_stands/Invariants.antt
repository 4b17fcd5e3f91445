use Rattle.std.proofs.Common.{◌≡◌, ◌++◌, map, take}
use Rattle.serde_json.specs.View.{view}
use Rattle.cg_advice.specs.Found.{stand_let}
use Rattle.cg_json.specs.Advice.{stand_value}
use Rattle.cg_json.proofs.advice.push_stands.Given as goal

abbrev pub invariant-loop-stand : goal.invariant-loop-stand
invariant-loop-stand l =
    map view l.list.items ≡ map view l.fn.list.items ++ map (λ stand. stand_value (stand_let stand)) (take l.stand-index l.stands)
