use Rattle.cg_cgroup.specs.declared.files.Controller.TheVariants.{Memory}
use Rattle.cg_second.specs.Greatest.{greatest}
use Rattle.cg_second.specs.Anchors.{is_fixed}
use Rattle.cg_second.specs.Counts.{IsTally}
use Rattle.cg_second.proofs.counts.lasting_counts.Given as goal

abbrev pub invariant-loop-at : goal.invariant-loop-at
invariant-loop-at g l = record {
  kept : IsTally (greatest (g.H.Hierarchy.state l.tree) l.users).stays l.paths l.at l.kept.counts.items l.kept.count;
  fixed : IsTally (is_fixed (g.H.Hierarchy.state l.tree) l.users Memory) l.paths l.at l.fixed.counts.items l.fixed.count;
}
