use Rattle.std.proofs.Common.{refl}
use Rattle.cg_cgroup.proofs.PathOrder.{path_cmp_total}
use Rattle.cg_rows.proofs.Sorted.{changed, changed_sorted, no_gap}
use Rattle.cg_rows.proofs.tables.path_table.PathTable.set.Goals as goal

pub invariant_of-self : goal.invariant_of-self
invariant_of-self g c =
    changed_sorted path_cmp_total _ c.args.value _ _ _ _ _ c.self.invariant c.deref.ensures.value c.in-Ok.ensures c.index_mut.ensures.value
    refl

pub returns : goal.returns
returns g c =
    changed path_cmp_total _ _ _ _ _ _ _ c.self.view_is c.self.invariant c.deref.ensures.value c.in-Ok.ensures c.index_mut.ensures.value
    refl

pub unreachable-requires : goal.unreachable-requires
unreachable-requires g c =
    no_gap path_cmp_total _ _ _ _ c.self.view_is c.self.invariant c.deref.ensures.value c.requires c.in_default.ensures
