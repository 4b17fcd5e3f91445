use Rattle.cg_cgroup.proofs.ToldLaws.{AreCopied}
use Rattle.cg_cgroup.proofs.told.ToldFiles.try_clone.Given as goal

abbrev pub invariant-loop-at : goal.invariant-loop-at
invariant-loop-at l = AreCopied l.self l.at l.entries.value
