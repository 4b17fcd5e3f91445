use Rattle.std.proofs.Common.{rules}
use Rattle.cg_cgroup.proofs.PathOrder.{path_cmp_total}
use Rattle.cg_rows.proofs.Sorted.{shown_length}
use Rattle.cg_rows.proofs.tables.path_table.PathTable.len.Goals as goal

pub returns : goal.returns
returns g c = shown_length path_cmp_total _ _ c.self.view_is c.self.invariant (search rules)
