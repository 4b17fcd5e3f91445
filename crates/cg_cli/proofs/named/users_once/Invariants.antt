use Rattle.std.proofs.Common.{map, take}
use Rattle.std.specs.BTreeSet.{contains}
use Rattle.cg_cli.specs.Audits.{users_read}
use Rattle.cg_cli.specs.Once.{same_user}
use Rattle.cg_cli.proofs.Once.{ReadOnce, key_cmp, meets}
use Rattle.cg_cli.proofs.named.users_once.Given as goal

abbrev pub invariant-loop-user : goal.invariant-loop-user
invariant-loop-user l =
    ReadOnce same_user meets (users_read (map (λ user. (user.uid, user.gids.now)) (take l.user-index l.users))) l.read.items
    (contains key_cmp l.seen)
