use Rattle.std.proofs.Common.{◌≡◌, ◌++◌}
use Rattle.cg_rows.proofs.processes.Processes.try_clone.Given as goal

abbrev pub invariant-loop-pid : goal.invariant-loop-pid
invariant-loop-pid l = l.live.entries ++ l.pid-iterator ≡ l.self-inside.live.entries
