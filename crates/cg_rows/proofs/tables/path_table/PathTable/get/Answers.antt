use Rattle.std.proofs.Common.{take}
use Rattle.cg_cgroup.proofs.PathOrder.{path_cmp_total}
use Rattle.cg_rows.proofs.Sorted.{read_place, read_gap}
use Rattle.cg_rows.proofs.tables.path_table.PathTable.get.Goals as goal

pub returns-in-Ok : goal.returns-in-Ok
returns-in-Ok g c =
    read_place path_cmp_total (take c.args.len c.args.path.now) _ _ _ _ c.self.view_is c.self.invariant c.deref.ensures.value
    c.in-Ok.ensures c.index.ensures

pub returns-in-Err : goal.returns-in-Err
returns-in-Err g c =
    read_gap path_cmp_total (take c.args.len c.args.path.now) _ _ _ c.self.view_is c.self.invariant c.deref.ensures.value c.in-Err.ensures
