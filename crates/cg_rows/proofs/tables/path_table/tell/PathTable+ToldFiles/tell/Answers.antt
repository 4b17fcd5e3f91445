use Rattle.std.proofs.Common.{◌≡◌, unwrap_or, None, Some, refl, ap, ◌∙◌}
use Rattle.std.specs.List.{insert as insert_item}
use Rattle.std.specs.FinMap as map
use Rattle.cg_cgroup.specs.Paths.{Names}
use Rattle.cg_cgroup.specs.Told.{nothing_told, telling}
use Rattle.cg_cgroup.proofs.PathOrder.{path_cmp_total}
use Rattle.cg_rows.proofs.Sorted.{read_place, read_gap, changed, changed_sorted, inserted, inserted_sorted}
use Rattle.cg_rows.proofs.tables.path_table.tell.PathTable+ToldFiles.tell.Goals as goal

pub invariant_of-self : goal.invariant_of-self
invariant_of-self c =
    changed_sorted path_cmp_total c.args.path.now c.set.new.self _ _ _ _ _ c.self.invariant c.deref.ensures.value c.in-Ok.ensures
    c.index_mut.ensures.value refl

new_items : (c : goal.In_ok-insert-in-Err) → c.insert.new.self.items
    ≡ insert_item c.self.inside.entries.items c.in-Err.at (c.args.path.now, c.set-in-Err.new.self)
new_items c =
    c.in_ok-insert-in-Err.ensures.items
    ∙ ap (λ (q : Names). insert_item c.self.inside.entries.items c.in-Err.at (q, c.set-in-Err.new.self)) c.in_ok-path-in-Err.ensures

pub invariant_of-self-in-Err : goal.invariant_of-self-in-Err
invariant_of-self-in-Err c =
    inserted_sorted path_cmp_total c.args.path.now _ _ _ _ _ c.self.invariant c.deref.ensures.value c.in-Err.ensures
    (new_items c)

pub returns-in-Ok-clause-ok : goal.returns-in-Ok-clause-ok
returns-in-Ok-clause-ok c =
    let here : Some c.index_mut.result.now.1 ≡ map.get c.args.self.now c.args.path.now =
    read_place path_cmp_total c.args.path.now _ _ _ c.index_mut.result.now c.self.view_is c.self.invariant c.deref.ensures.value
    c.in-Ok.ensures c.index_mut.ensures.value in
    changed path_cmp_total c.args.path.now c.set.new.self _ _ _ _ _ c.self.view_is c.self.invariant c.deref.ensures.value c.in-Ok.ensures
    c.index_mut.ensures.value refl
    ∙ ap (map.insert c.args.self.now c.args.path.now) (c.set.ensures
    ∙ ap (λ o. telling c.args.file (Some c.args.told) (unwrap_or o nothing_told)) here)

pub returns-in_ok-insert-in-Err-clause-ok : goal.returns-in_ok-insert-in-Err-clause-ok
returns-in_ok-insert-in-Err-clause-ok c =
    let none : None ≡ map.get c.args.self.now c.args.path.now =
    read_gap path_cmp_total c.args.path.now _ _ _ c.self.view_is c.self.invariant c.deref.ensures.value c.in-Err.ensures in
    inserted path_cmp_total c.args.path.now c.set-in-Err.new.self _ _ _ _ c.self.view_is c.self.invariant c.deref.ensures.value
    c.in-Err.ensures (new_items c)
    ∙ ap (map.insert c.args.self.now c.args.path.now) (c.set-in-Err.ensures
    ∙ ap (telling c.args.file (Some c.args.told)) c.in_ok-files-in-Err.ensures
    ∙ ap (λ o. telling c.args.file (Some c.args.told) (unwrap_or o nothing_told)) none)
