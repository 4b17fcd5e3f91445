use Rattle.std.proofs.Common.{◌≡◌, map, take}
use Rattle.cg_advice.specs.Ways.{pair_of}
use Rattle.cg_cli.specs.Advising.{paired}
use Rattle.cg_cli.proofs.pairs.paired.Given as goal

abbrev pub invariant-loop-place : goal.invariant-loop-place
invariant-loop-place l = map pair_of l.pairs.items ≡ paired (take l.place l.users) l.subtrees
