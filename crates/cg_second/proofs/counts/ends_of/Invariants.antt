use Rattle.cg_second.specs.Counts.{AreEnds}
use Rattle.cg_second.proofs.counts.ends_of.Given as goal

abbrev pub invariant-loop-at : goal.invariant-loop-at
invariant-loop-at g l = AreEnds (g.H.Hierarchy.state l.tree) l.at l.ends.items
