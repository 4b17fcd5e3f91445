use Rattle.std.proofs.Common.{◌≡◌, take}
use Rattle.cg_rows.proofs.tables.path_table.PathTable.try_clone.Given as goal

abbrev pub invariant-loop-path : goal.invariant-loop-path
invariant-loop-path g l = l.entries.items ≡ take l.path-index l.path-items
