use Rattle.std.proofs.Common.{◌≡◌, length}
use Rattle.cg_cgroup.proofs.Words.{short_from}
use Rattle.cg_cgroup.proofs.path.names.are_short.Given as goal

abbrev pub invariant-loop-rest : goal.invariant-loop-rest
invariant-loop-rest l = short_from 0 l.rest ≡ short_from 0 l.text

abbrev pub decreases-loop-rest : goal.decreases-loop-rest
decreases-loop-rest l = length l.rest
