use Rattle.std.proofs.Common.{◌≤◌, length}
use Rattle.cg_tries.proofs.Levels.{OpenAbove}
use Rattle.cg_tries.proofs.probe_tries.open_levels.Given as goal

abbrev pub invariant-loop-at : goal.invariant-loop-at
invariant-loop-at g l = record {
  within : l.level ≤ length l.asker.subtree.now;
  open_above : OpenAbove (g.H.Hierarchy.state l.asker.tree.now) l.asker.subtree.now l.at l.level;
}
