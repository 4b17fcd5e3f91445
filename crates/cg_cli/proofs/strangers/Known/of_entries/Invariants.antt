use Rattle.std.proofs.Common.{take, [], ◌++◌}
use Rattle.std.specs.FinMap as finmap
use Rattle.std.specs.List.{flat_map}
use Rattle.cg_cli.specs.Known.{AreOfEntries}
use Rattle.cg_cli.specs.Strangers.{entries_of, told_entries}
use Rattle.cg_cli.proofs.strangers.Known.of_entries.Given as goal

abbrev pub invariant-loop-files : goal.invariant-loop-files
invariant-loop-files l =
    AreOfEntries l.known
    (flat_map (λ row. entries_of row.1) (finmap.entries l.tree.rows)
    ++ flat_map (λ row. told_entries row.1) (take l.files-index l.files-items)) []
