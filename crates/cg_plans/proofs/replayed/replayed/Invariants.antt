use Rattle.cg_plans.specs.Following.{Follows}
use Rattle.cg_plans.proofs.replayed.replayed.Given as goal

-- the replay has come to where the kept operations lead
abbrev pub invariant-loop-op : goal.invariant-loop-op
invariant-loop-op g l =
    ((goal.iterator-loop-op g).can_next l.op-iterator × (goal.iterator-loop-op g).is_finite l.op-iterator)
    × Follows (g.H.Hierarchy.state l.tree) l.user l.subtree l.replay l.kept
