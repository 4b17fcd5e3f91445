use Rattle.std.proofs.Common.{◌≡◌, ◌-◌, cond, map, take, take_all, drop, length, sym, ap, subst, ◌∙◌, arith}
use Rattle.std.proofs.lemmas.List.{with_items_is, length-map}
use Rattle.std.specs.Vec.{with_items}
use borrow.Rule.Slice.PartMut.{put_mid}
use Rattle.cg_cgroup.specs.Paths.{Names, is_child, below}
use Rattle.cg_cgroup.specs.Told.{told_under}
use Rattle.cg_cgroup.specs.declared.told.ToldFiles.{ToldFiles}
use Rattle.cg_rows.specs.Places.{IsRange}
use Rattle.cg_rows.proofs.Below.{children_changed}
use Rattle.cg_rows.proofs.Changed.{each_changed, each_sorted}
use Rattle.cg_rows.proofs.tables.path_table.tell.PathTable+ToldFiles.keep.Goals as goal

new_items : (c : goal.After-self-1) → (with_items c.self.inside.entries (put_mid c.range_below-start.result.0
    (c.range_below-start.result.1 - c.range_below-start.result.0) c.deref_mut.result.now c.keep_all.new.entries)).items
    ≡ map (λ e. (e.0, cond (is_child c.args.path.now e.0) (told_under c.args.enabled e.1) e.1)) c.self.inside.entries.items
new_items c =
    let p = c.args.path.now in
    let i = c.range_below-start.result.0 in
    let n = c.range_below-start.result.1 - i in
    let f : Names × ToldFiles → Names × ToldFiles = λ e. (e.0, cond (is_child c.args.path.now e.0) (told_under c.args.enabled e.1) e.1) in
    let whole : take c.depth.result p ≡ p = take_all c.depth.result p (omega (arith, c.depth.ensures.depth)) in
    let range = subst (λ (q : Names). IsRange (below q) c.deref.result.now i c.range_below-start.result.1) whole
    c.range_below-start.ensures in
    let changed = ap (put_mid i n c.deref_mut.result.now) c.keep_all.ensures
    ∙ ap (λ es. put_mid i n es (map f (take n (drop i es)))) c.deref_mut.ensures.value
    ∙ children_changed p _ _ _ _ c.deref.ensures.value range (told_under c.args.enabled) in
    with_items_is c.self.inside.entries _
    (ap length changed ∙ length-map c.self.inside.entries.items f ∙ sym c.self.inside.entries.ok.0) ∙ changed

pub invariant_of-self : goal.invariant_of-self
invariant_of-self c =
    each_sorted (λ q files. cond (is_child c.args.path.now q) (told_under c.args.enabled files) files) _ _ c.self.view_is c.self.invariant
    (new_items c)

pub returns : goal.returns
returns c =
    each_changed (λ q files. cond (is_child c.args.path.now q) (told_under c.args.enabled files) files) _ _ c.self.view_is c.self.invariant
    (new_items c)
