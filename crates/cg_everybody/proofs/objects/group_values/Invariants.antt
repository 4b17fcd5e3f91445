use Rattle.std.proofs.Common.{◌≡◌, map, take}
use Rattle.serde_json.specs.View.{view}
use Rattle.cg_everybody.specs.Everybody.{members_of}
use Rattle.cg_everybody.specs.Objects.{group_value}
use Rattle.cg_everybody.proofs.objects.group_values.Given as goal

abbrev pub invariant-loop-group : goal.invariant-loop-group
invariant-loop-group l = map view l.list.items ≡ map (λ group. group_value (members_of group)) (take l.group-index l.groups)
