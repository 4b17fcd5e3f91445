use Rattle.std.proofs.Common.{ℕ, ◌<◌, ◌≤◌, ◌≢◌, length, get_or}
use Rattle.cg_cgroup.proofs.path.names.after_last_slash.Given as goal

abbrev pub invariant-loop-len : goal.invariant-loop-len
invariant-loop-len l =
    ((l.len ≤ length l.text) × (l.len ≤ 256)) × ((k : ℕ) → l.len ≤ k → k < 256 → k < length l.text → get_or l.text k 0 ≢ 47)

abbrev pub decreases-loop-len : goal.decreases-loop-len
decreases-loop-len l = l.len
