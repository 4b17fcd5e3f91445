use Rattle.std.proofs.Common.{◌≡◌, map, length, sym, ap, ◌∙◌}
use Rattle.std.proofs.lemmas.List.{with_items_is, length-map}
use Rattle.std.specs.Vec.{with_items}
use Rattle.cg_cgroup.specs.Paths.{Names}
use Rattle.cg_model.specs.States.{enabling}
use Rattle.cg_cgroup.specs.declared.cgroup.Cgroup.{Cgroup}
use Rattle.cg_rows.proofs.Changed.{each_changed, each_sorted}
use Rattle.cg_rows.proofs.tables.path_table.enable.PathTable+Cgroup.enable.Goals as goal

new_items : (c : goal.After-self-1) → (with_items c.self.inside.entries c.enable_all.new.entries).items
    ≡ map (λ e. (e.0, enabling c.args.path.now c.args.enabled c.args.user.now e.0 e.1)) c.self.inside.entries.items
new_items c =
    let f : Names × Cgroup → Names × Cgroup = λ e. (e.0, enabling c.args.path.now c.args.enabled c.args.user.now e.0 e.1) in
    let changed = c.enable_all.ensures ∙ ap (map f) c.deref_mut.ensures.value in
    with_items_is c.self.inside.entries c.enable_all.new.entries
    (ap length changed ∙ length-map c.self.inside.entries.items f ∙ sym c.self.inside.entries.ok.0) ∙ changed

pub invariant_of-self : goal.invariant_of-self
invariant_of-self c =
    each_sorted (enabling c.args.path.now c.args.enabled c.args.user.now) _ _ c.self.view_is c.self.invariant (new_items c)

pub returns : goal.returns
returns c = each_changed (enabling c.args.path.now c.args.enabled c.args.user.now) _ _ c.self.view_is c.self.invariant (new_items c)
