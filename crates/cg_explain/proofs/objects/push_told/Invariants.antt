use Rattle.std.proofs.Common.{◌≡◌, ◌++◌, map, take}
use Rattle.serde_json.specs.View.{view}
use Rattle.cg_explain.specs.Objects.{told_value}
use Rattle.cg_explain.proofs.objects.push_told.Given as goal

abbrev pub invariant-loop-told : goal.invariant-loop-told
invariant-loop-told l = map view l.list.items ≡ map view l.fn.list.items ++ map (told_value l.subtree) (take l.told-index l.row)
