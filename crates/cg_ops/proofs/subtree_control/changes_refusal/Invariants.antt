use Rattle.std.proofs.Common.{◌≡◌}
use Rattle.cg_model.specs.Clauses.{first}
use Rattle.cg_model.specs.Bars.{changes_bars}
use Rattle.cg_ops.proofs.ChangesLeft.{refusal_from}
use Rattle.cg_ops.proofs.subtree_control.changes_refusal.Given as goal

-- the first refusal of the controllers that are still to come is that of all
abbrev pub invariant-loop-controller : goal.invariant-loop-controller
invariant-loop-controller g l =
    let st = g.H.Hierarchy.state l.tree in
    refusal_from st l.at l.changes l.cgroup l.controller-index ≡ first (changes_bars st l.at l.changes l.cgroup)
