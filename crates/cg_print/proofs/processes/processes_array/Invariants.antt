use Rattle.toml.specs.Data.{table}
use Rattle.cg_print.specs.Carried.{IsNamedProcess}
use Rattle.cg_print.specs.Documents.{process_table}
use Rattle.cg_print.proofs.Entries.{AreWritten}
use Rattle.cg_print.proofs.processes.processes_array.Given as goal

abbrev pub invariant-loop-pid : goal.invariant-loop-pid
invariant-loop-pid g l =
    AreWritten (g.H.Hierarchy.state l.tree).live (λ pid process. table (process_table pid process)) IsNamedProcess
    l.pid-index l.values.items
