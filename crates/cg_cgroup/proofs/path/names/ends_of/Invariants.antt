use Rattle.std.proofs.Common.{◌≡◌, ◌+◌, take}
use Rattle.std.specs.Prelude.{vec_capacity}
use Rattle.cg_cgroup.proofs.Slashes.{slashes}
use Rattle.cg_cgroup.proofs.path.names.ends_of.Given as goal

abbrev pub invariant-loop-at : goal.invariant-loop-at
invariant-loop-at l = (l.ends.items ≡ slashes 0 (take l.at l.names)) × (vec_capacity l.ends ≡ l.slashes + 1)
