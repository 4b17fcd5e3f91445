use Rattle.std.proofs.Common.{◌≡◌, map, take}
use Rattle.serde_json.specs.View.{view}
use Rattle.cg_json.specs.Operations.{op_value}
use Rattle.cg_json.proofs.operation.ops_value.Given as goal

abbrev pub invariant-loop-op : goal.invariant-loop-op
invariant-loop-op l = map view l.list.items ≡ map op_value (take l.op-index l.ops)
