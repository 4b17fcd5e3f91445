use Rattle.std.proofs.Common.{◌≡◌, map, take}
use Rattle.arguments.specs.Given.{ids_of}
use Rattle.commands.proofs.users.all_ids.Given as goal

abbrev pub invariant-loop-user : goal.invariant-loop-user
invariant-loop-user l = map (λ user. (user.uid, user.gids.now)) l.all.items ≡ map ids_of (take l.user-index l.users)
