use Rattle.std.proofs.Common.{map, take}
use Rattle.cg_advice.specs.Ways.{entering, AreGathered}
use Rattle.cg_advice.proofs.gathered.Gathered.of.Given as goal

abbrev pub invariant-loop-each : goal.invariant-loop-each
invariant-loop-each l = AreGathered l.gathered.ways (map entering (take l.each-index l.entrants))
