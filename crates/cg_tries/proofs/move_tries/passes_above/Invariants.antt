use Rattle.std.proofs.Common.{◌≡◌, ℕ, ◌<◌, false, take}
use Rattle.cg_ops.specs.Moves.{passes_at}
use Rattle.cg_tries.proofs.move_tries.passes_above.Given as goal

-- none so far
abbrev pub invariant-loop-len : goal.invariant-loop-len
invariant-loop-len g l =
    (k : ℕ) → k < l.len → passes_at (g.H.Hierarchy.state l.asker.tree.now) l.asker.user.now (take k l.asker.subtree.now) ≡ false
