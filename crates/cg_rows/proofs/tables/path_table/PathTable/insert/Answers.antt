use Rattle.cg_cgroup.proofs.PathOrder.{path_cmp_total}
use Rattle.cg_rows.proofs.Sorted.{inserted, inserted_sorted, no_place}
use Rattle.cg_rows.proofs.tables.path_table.PathTable.insert.Goals as goal

pub invariant_of-self-2 : goal.invariant_of-self-2
invariant_of-self-2 g c =
    inserted_sorted path_cmp_total _ _ _ _ _ _ c.self.invariant c.deref.ensures.value c.in-Err.ensures c.in_ok-insert.ensures.items

pub returns-clause-ok : goal.returns-clause-ok
returns-clause-ok g c =
    inserted path_cmp_total _ _ _ _ _ _ c.self.view_is c.self.invariant c.deref.ensures.value c.in-Err.ensures c.in_ok-insert.ensures.items

pub unreachable-requires : goal.unreachable-requires
unreachable-requires g c =
    no_place path_cmp_total _ _ _ _ c.self.view_is c.self.invariant c.deref.ensures.value c.requires c.in_default.ensures
