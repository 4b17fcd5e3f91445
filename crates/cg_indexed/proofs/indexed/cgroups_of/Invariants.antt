use Rattle.std.proofs.Common.{drop}
use Rattle.cg_indexed.proofs.Taken.{AreTaken}
use Rattle.cg_indexed.proofs.indexed.cgroups_of.Given as goal

abbrev pub invariant-loop-path : goal.invariant-loop-path
invariant-loop-path l = AreTaken l.rows.rows l.cgroups (drop l.path-index l.path-items)
