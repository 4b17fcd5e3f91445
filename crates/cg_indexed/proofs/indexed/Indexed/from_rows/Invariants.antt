use Rattle.cg_indexed.proofs.Taken.{AreRaised}
use Rattle.cg_indexed.proofs.indexed.Indexed.from_rows.Given as goal

abbrev pub invariant-loop-pid : goal.invariant-loop-pid
invariant-loop-pid l = AreRaised l.fn.rows l.cgroups l._pid-iterator
