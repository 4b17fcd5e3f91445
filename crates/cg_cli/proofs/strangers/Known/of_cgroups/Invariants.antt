use Rattle.std.proofs.Common.{take, []}
use Rattle.std.specs.List.{flat_map}
use Rattle.cg_cli.specs.Known.{AreOfEntries}
use Rattle.cg_cli.specs.Strangers.{entries_of}
use Rattle.cg_cli.proofs.strangers.Known.of_cgroups.Given as goal

abbrev pub invariant-loop-cgroup : goal.invariant-loop-cgroup
invariant-loop-cgroup l = AreOfEntries l.known (flat_map (λ row. entries_of row.1) (take l.cgroup-index l.cgroup-items)) []
