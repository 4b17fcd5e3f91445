use Rattle.cg_cgroup.proofs.PathOrder.{path_cmp_total}
use Rattle.cg_rows.proofs.Sorted.{shown_entries}
use Rattle.cg_rows.proofs.tables.path_table.PathTable.entries.Goals as goal

pub returns : goal.returns
returns g c = shown_entries path_cmp_total _ _ c.self.view_is c.self.invariant c.as_slice.ensures.value
