use Rattle.std.proofs.Common.{◌≡◌, map, take}
use Rattle.arguments.specs.Given.{ids_of_pair}
use Rattle.cg_cli.specs.Pairs.{pair_given}
use Rattle.commands.proofs.users.pair_ids.Given as goal

abbrev pub invariant-loop-pair : goal.invariant-loop-pair
invariant-loop-pair l = map pair_given l.all.items ≡ map ids_of_pair (take l.pair-index l.pairs)
