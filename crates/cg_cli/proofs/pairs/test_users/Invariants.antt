use Rattle.std.proofs.Common.{◌≡◌, List, map, Ok, take}
use Rattle.cg_cgroup.specs.Identity.{Identity}
use Rattle.cg_cli.specs.Audits.{users_read}
use Rattle.cg_cli.specs.Pairs.{pair_given}
use Rattle.cg_cli.proofs.pairs.test_users.Given as goal

abbrev pub invariant-loop-pair : goal.invariant-loop-pair
invariant-loop-pair l = (read : List Identity) × (users_read (map (λ pair. (pair_given pair).0) (take l.pair-index l.pairs)) ≡ Ok read)
