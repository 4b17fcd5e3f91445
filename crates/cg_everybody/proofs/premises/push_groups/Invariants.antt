use Rattle.std.proofs.Common.{◌≡◌, ◌++◌, take}
use Rattle.std.specs.List.{flat_map}
use Rattle.std.specs.Prelude.{string_bytes}
use Rattle.cg_everybody.specs.Everybody.{members_of}
use Rattle.cg_everybody.specs.Premises.{group_line}
use Rattle.cg_everybody.proofs.premises.push_groups.Given as goal

abbrev pub invariant-loop-group : goal.invariant-loop-group
invariant-loop-group l =
    string_bytes l.text ≡ string_bytes l.fn.text ++ flat_map (λ group. group_line (members_of group)) (take l.group-index l.groups)
