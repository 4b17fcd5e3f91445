use Rattle.std.proofs.Common.{◌-◌, ◌≤◌, length, take}
use Rattle.cg_cgroup.specs.Paths.{common}
use Rattle.cg_cgroup.proofs.path.Path.shared_len.Given as goal

abbrev pub invariant-loop-low : goal.invariant-loop-low
invariant-loop-low l =
    ((l.high ≤ l.own) × (l.high ≤ l.len))
    × ((l.low ≤ length (common (take l.own l.self) (take l.len l.other)))
    × (length (common (take l.own l.self) (take l.len l.other)) ≤ l.high))

abbrev pub decreases-loop-low : goal.decreases-loop-low
decreases-loop-low l = l.high - l.low
