use Rattle.cg_cgroup.proofs.PathOrder.{path_cmp_total, path_cmp-IsAntisymmetric}
use Rattle.cg_rows.proofs.Sorted.{removed, removed_sorted, removed_none}
use Rattle.cg_rows.proofs.tables.path_table.PathTable.forget.Goals as goal

pub invariant_of-self : goal.invariant_of-self
invariant_of-self g c =
    removed_sorted path_cmp_total _ _ _ _ _ c.self.invariant c.deref.ensures.value c.in-Ok.ensures c.remove.ensures.items

pub returns-in-Ok : goal.returns-in-Ok
returns-in-Ok g c =
    removed path_cmp_total path_cmp-IsAntisymmetric _ _ _ _ _ c.self.view_is c.self.invariant c.deref.ensures.value c.in-Ok.ensures
    c.remove.ensures.items

pub returns-in_default : goal.returns-in_default
returns-in_default g c =
    removed_none path_cmp_total path_cmp-IsAntisymmetric _ _ _ _ c.self.view_is c.self.invariant c.deref.ensures.value
    c.in_default.ensures
