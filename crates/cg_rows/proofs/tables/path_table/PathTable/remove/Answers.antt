use Rattle.cg_cgroup.proofs.PathOrder.{path_cmp_total, path_cmp-IsAntisymmetric}
use Rattle.cg_rows.proofs.Sorted.{removed, removed_sorted, no_gap}
use Rattle.cg_rows.proofs.tables.path_table.PathTable.remove.Goals as goal

pub invariant_of-self : goal.invariant_of-self
invariant_of-self g c =
    removed_sorted path_cmp_total _ _ _ _ _ c.self.invariant c.deref.ensures.value c.in-Ok.ensures c.remove.ensures.items

pub returns : goal.returns
returns g c =
    removed path_cmp_total path_cmp-IsAntisymmetric _ _ _ _ _ c.self.view_is c.self.invariant c.deref.ensures.value c.in-Ok.ensures
    c.remove.ensures.items

pub unreachable-requires : goal.unreachable-requires
unreachable-requires g c =
    no_gap path_cmp_total _ _ _ _ c.self.view_is c.self.invariant c.deref.ensures.value c.requires c.in_default.ensures
