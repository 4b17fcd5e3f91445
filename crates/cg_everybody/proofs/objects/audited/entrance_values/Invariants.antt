use Rattle.std.proofs.Common.{◌≡◌, map, take}
use Rattle.serde_json.specs.View.{view}
use Rattle.cg_everybody.specs.Entrances.{entrance_spot}
use Rattle.cg_everybody.specs.Everybody.{everybody_of}
use Rattle.cg_everybody.specs.Objects.{entrance_value}
use Rattle.cg_everybody.proofs.objects.audited.entrance_values.Given as goal

abbrev pub invariant-loop-each : goal.invariant-loop-each
invariant-loop-each l =
    map view l.list.items ≡ map (λ each. entrance_value (everybody_of l.asked) (entrance_spot each)) (take l.each-index l.found)
