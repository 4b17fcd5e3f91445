use Rattle.cg_cgroup.proofs.ToldLaws.{AreKept}
use Rattle.cg_cgroup.proofs.told.ToldFiles.keep.Given as goal

abbrev pub invariant-loop-at : goal.invariant-loop-at
invariant-loop-at l = AreKept l.enabled l.fn.self l.at l.self-inside.entries.value
