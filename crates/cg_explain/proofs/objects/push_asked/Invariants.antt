use Rattle.std.proofs.Common.{◌≡◌, ◌++◌, map, take}
use Rattle.serde_json.specs.View.{view}
use Rattle.cg_explain.specs.Objects.{asked_value}
use Rattle.cg_explain.proofs.objects.push_asked.Given as goal

abbrev pub invariant-loop-asked : goal.invariant-loop-asked
invariant-loop-asked l = map view l.list.items ≡ map view l.fn.list.items ++ map (asked_value l.subtree) (take l.asked-index l.row)
