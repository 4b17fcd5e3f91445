use Rattle.std.proofs.Common.{◌≡◌, List, map, Ok, take}
use Rattle.cg_cgroup.specs.Identity.{Identity}
use Rattle.cg_cli.specs.Audits.{users_read}
use Rattle.cg_cli.proofs.named.test_users.Given as goal

abbrev pub invariant-loop-user : goal.invariant-loop-user
invariant-loop-user l =
    (read : List Identity) × (users_read (map (λ user. (user.uid, user.gids.now)) (take l.user-index l.users)) ≡ Ok read)
