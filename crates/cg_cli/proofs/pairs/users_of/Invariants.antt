use Rattle.std.proofs.Common.{◌≡◌, map, Ok, take}
use Rattle.cg_cli.specs.Audits.{users_read}
use Rattle.cg_cli.specs.Pairs.{pair_given}
use Rattle.cg_cli.proofs.pairs.users_of.Given as goal

abbrev pub invariant-loop-pair : goal.invariant-loop-pair
invariant-loop-pair l = users_read (map (λ pair. (pair_given pair).0) (take l.pair-index l.pairs)) ≡ Ok l.users.items
