use Rattle.std.proofs.Common.{◌≡◌, ◌==◌, take}
use Rattle.std.specs.List.{list_any}
use Rattle.cg_cgroup.proofs.path.names.has_dot.Given as goal

abbrev pub invariant-loop-byte : goal.invariant-loop-byte
invariant-loop-byte l = l.found ≡ list_any (λ b. b == 46) (take l.byte-index l.text)
