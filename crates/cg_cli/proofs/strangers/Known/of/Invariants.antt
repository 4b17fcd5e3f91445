use Rattle.cg_cli.specs.Strangers.{tree_entries, all_owners}
use Rattle.cg_cli.proofs.StrangerLaws.{AreLeft}
use Rattle.cg_cli.proofs.strangers.Known.of.Given as goal

abbrev pub invariant-loop-pid : goal.invariant-loop-pid
invariant-loop-pid l = AreLeft (λ row. row.1.uid) l.known (tree_entries l.tree) (all_owners l.tree) l._pid-iterator
