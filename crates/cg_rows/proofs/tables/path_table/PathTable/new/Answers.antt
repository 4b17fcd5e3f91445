use Rattle.cg_cgroup.proofs.PathOrder.{path_cmp_total}
use Rattle.cg_rows.proofs.Sorted.{empty_table}
use Rattle.cg_rows.proofs.tables.path_table.PathTable.new.Goals as goal

pub returns : goal.returns
returns g c = empty_table path_cmp_total _ c.new.ensures.items
