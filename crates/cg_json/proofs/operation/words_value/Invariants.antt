use Rattle.std.proofs.Common.{◌≡◌, map, take}
use Rattle.serde_json.specs.Data.{string}
use Rattle.serde_json.specs.View.{view}
use Rattle.cg_lines.specs.OperationLines.{change_word}
use Rattle.cg_json.proofs.operation.words_value.Given as goal

abbrev pub invariant-loop-change : goal.invariant-loop-change
invariant-loop-change l = map view l.list.items ≡ map (λ change. string (change_word change)) (take l.change-index l.changes)
