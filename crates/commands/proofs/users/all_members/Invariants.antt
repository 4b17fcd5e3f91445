use Rattle.std.proofs.Common.{◌≡◌, map, take}
use Rattle.arguments.specs.Given.{listed_group}
use Rattle.cg_everybody.specs.Everybody.{members_of}
use Rattle.commands.proofs.users.all_members.Given as goal

abbrev pub invariant-loop-group : goal.invariant-loop-group
invariant-loop-group l = map members_of l.all.items ≡ map listed_group (take l.group-index l.groups)
