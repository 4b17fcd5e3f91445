use Rattle.std.proofs.Common.{◌≡◌, ℕ, map, take}
use Rattle.serde_json.specs.Data.{number, unsigned}
use Rattle.serde_json.specs.View.{view}
use Rattle.cg_json.proofs.members.numbers_value.Given as goal

abbrev pub invariant-loop-number : goal.invariant-loop-number
invariant-loop-number l = map view l.list.items ≡ map (λ (each : ℕ). number (unsigned each)) (take l.number-index l.numbers)
