use Rattle.std.proofs.Common.{◌≡◌, map, take}
use Rattle.cg_advice.specs.Ways.{pair_of}
use Rattle.cg_cli.specs.Advising.{all_pairs}
use Rattle.cg_cli.proofs.advise.all_pairs.Given as goal

abbrev pub invariant-loop-user : goal.invariant-loop-user
invariant-loop-user l = map pair_of l.pairs.items ≡ all_pairs (take l.user-index l.users) l.subtrees
