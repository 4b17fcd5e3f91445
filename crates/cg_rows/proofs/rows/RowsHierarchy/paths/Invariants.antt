use Rattle.std.proofs.Common.{◌≡◌, take, map}
use Rattle.cg_rows.proofs.rows.RowsHierarchy.paths.Given as goal

abbrev pub invariant-loop-entry : goal.invariant-loop-entry
invariant-loop-entry l = l.paths.items ≡ map (λ e. e.0) (take l.entry-index l.entry-items)
