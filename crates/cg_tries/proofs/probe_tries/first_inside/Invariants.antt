use Rattle.std.proofs.Common.{◌≡◌, drop, find}
use Rattle.cg_model.specs.Tries.{is_inside}
use Rattle.cg_tries.proofs.probe_tries.first_inside.Given as goal

-- the first is among those that are still to come
abbrev pub invariant-loop-pid : goal.invariant-loop-pid
invariant-loop-pid g l =
    find (is_inside (g.H.Hierarchy.state l.asker.tree.now) l.asker.subtree.now) (drop l.pid-index l.pids)
    ≡ find (is_inside (g.H.Hierarchy.state l.asker.tree.now) l.asker.subtree.now) l.pids
