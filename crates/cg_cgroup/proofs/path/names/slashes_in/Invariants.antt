use Rattle.std.proofs.Common.{◌≡◌, ◌==◌, take}
use Rattle.std.specs.List.{count_by}
use Rattle.cg_cgroup.proofs.path.names.slashes_in.Given as goal

abbrev pub invariant-loop-byte : goal.invariant-loop-byte
invariant-loop-byte l = l.count ≡ count_by (λ b. b == 47) (take l.byte-index l.text)
