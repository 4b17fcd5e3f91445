use Rattle.cg_second.specs.Anchors.{is_anchored}
use Rattle.cg_second.specs.Counts.{IsTally}
use Rattle.cg_second.proofs.counts.anchored_counts.Given as goal

abbrev pub invariant-loop-path : goal.invariant-loop-path
invariant-loop-path g l =
    IsTally (is_anchored (g.H.Hierarchy.state l.tree) l.users) l.paths l.path-index l.tally.counts.items l.tally.count
