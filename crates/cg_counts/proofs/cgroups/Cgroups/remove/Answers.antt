use Rattle.std.proofs.Common.{◌≡◌, ap, sym, ◌∙◌, subst, List, length, false, Some, arith}
use Rattle.std.proofs.lemmas.List.{with_items_is, get_or_read}
use Rattle.std.specs.List.{list_any}
use Rattle.std.specs.Prelude.{slice_set}
use Rattle.std.specs.FinMap as map
use Rattle.std.specs.Vec.{with_items}
use Rattle.cg_cgroup.specs.Paths.{is_child}
use Rattle.cg_cgroup.specs.Files.{no_controllers}
use Rattle.cg_places.specs.Links.{no_link, link_at, to_nowhere, tallied_up}
use Rattle.cg_places.specs.Nodes.{node_at, recounted}
use Rattle.cg_places.specs.Values.{values_of}
use Rattle.cg_counts.specs.Kept.{held_of, AreKept}
use Rattle.cg_places.specs.declared.links.Link.{Link}
use Rattle.cg_places.specs.declared.links.Tally.TheVariants.{Fewer}
use Rattle.cg_counts.proofs.Read.{paths_are}
use Rattle.cg_counts.proofs.Removed.{held_left, kept_left}
use Rattle.cg_counts.proofs.cgroups.Cgroups.remove.Goals as goal

-- what was read before the change
place_is : (c : goal.After-push) → map.get c.self.inside.places c.args.path.now ≡ Some c.whole-place.result
place_is c = c.whole-place.ensures

link_is : (c : goal.After-push) → c.index.result.now ≡ link_at c.self.inside.links.items c.whole-place.result
link_is c =
    get_or_read c.self.inside.links.items c.whole-place.result c.index.result.now (c.self.invariant.placed.within _ _ (place_is c))
    c.index.ensures no_link

pub cgroup-requires : goal.cgroup-requires
cgroup-requires c =
    let l = c.self.invariant.placed.within _ _ c.whole-place.ensures in
    omega (arith, l, c.self.invariant.paired)

pub recount-requires : goal.recount-requires
recount-requires c =
    let here = c.whole-place.ensures in
    let l = c.self.invariant.placed.within _ _ (c.self.invariant.placed.above _ _ here) in
    let link : c.index.result.now ≡ link_at c.self.inside.links.items c.whole-place.result =
    get_or_read c.self.inside.links.items c.whole-place.result c.index.result.now (c.self.invariant.placed.within _ _ here)
    c.index.ensures no_link in
    omega (arith, l, c.self.invariant.paired, ap (λ (x : Link). x.above) link)

pub leave-requires : goal.leave-requires
leave-requires c =
    let here = c.whole-place.ensures in
    let l = c.self.invariant.placed.within _ _ here in
    let after =
    with_items_is c.self.inside.links c.tally_up.new.links
    (omega (arith, c.tally_up.auto.links, ap length c.deref_mut.ensures.value, c.self.inside.links.ok.0)) in
    omega (arith, l, c.tally_up.auto.links, ap length c.deref_mut.ensures.value, ap length c.deref_mut-2.ensures.value, ap length after)

childless : (c : goal.After-push) → list_any (is_child c.args.path.now) (map.keys c.self.inside.places) ≡ false
childless c =
    ap (list_any (is_child c.args.path.now)) (sym (paths_are c.self.inside.places c.self.inside.nodes c.args.self.now c.self.view_is))
    ∙ c.requires.no_child

links_are : (c : goal.After-push) → (with_items c.self.inside.links c.tally_up.new.links).items
    ≡ tallied_up Fewer c.self.inside.links.items (link_at c.self.inside.links.items c.whole-place.result).above (length c.args.path.now)
links_are c =
    with_items_is c.self.inside.links c.tally_up.new.links
    (omega (arith, c.tally_up.auto.links, ap length c.deref_mut.ensures.value, c.self.inside.links.ok.0))
    ∙ c.tally_up.ensures ∙ (λ t. tallied_up Fewer (c.deref_mut.ensures.value t) (link_is c t).above (c.depth.ensures.depth t))

nodes_are : (c : goal.After-push) → c.recount.new.nodes
    ≡ slice_set c.self.inside.nodes (link_at c.self.inside.links.items c.whole-place.result).above
    (recounted (node_at c.self.inside.nodes c.whole-place.result).cgroup.enabled no_controllers
    (node_at c.self.inside.nodes (link_at c.self.inside.links.items c.whole-place.result).above))
nodes_are c =
    c.recount.ensures ∙ (λ t. slice_set c.self.inside.nodes (link_is c t).above
    (recounted (c.cgroup.ensures t).enabled (c.none.ensures t) (node_at c.self.inside.nodes (link_is c t).above)))

abbrev lowered_links : (c : goal.After-push) → List Link
lowered_links c =
    tallied_up Fewer c.self.inside.links.items (link_at c.self.inside.links.items c.whole-place.result).above (length c.args.path.now)

left_are : (c : goal.After-push) → (with_items (with_items c.self.inside.links c.tally_up.new.links) c.leave.new.links).items
    ≡ slice_set (lowered_links c) c.whole-place.result (to_nowhere (link_at (lowered_links c) c.whole-place.result))
left_are c =
    with_items_is (with_items c.self.inside.links c.tally_up.new.links) c.leave.new.links
    (omega (arith, c.leave.auto.links, ap length c.deref_mut-2.ensures.value, (with_items c.self.inside.links c.tally_up.new.links).ok.0))
    ∙ c.leave.ensures ∙ ap (λ (ls : List Link). slice_set ls c.whole-place.result (to_nowhere (link_at ls c.whole-place.result)))
    (c.deref_mut-2.ensures.value ∙ links_are c)

pub invariant_of-self : goal.invariant_of-self
invariant_of-self c =
    subst (λ m. AreKept m (with_items (with_items c.self.inside.links c.tally_up.new.links) c.leave.new.links).items c.recount.new.nodes)
    (sym c.remove.ensures)
    (subst (λ ls. AreKept (map.remove c.self.inside.places c.args.path.now) ls c.recount.new.nodes) (sym (left_are c))
    (subst (AreKept (map.remove c.self.inside.places c.args.path.now) _) (sym (nodes_are c))
    (kept_left c.self.inside.places c.self.inside.links.items c.self.inside.nodes c.self.invariant c.args.path.now c.requires.not_root
    c.whole-place.result (place_is c) (childless c))))

pub returns : goal.returns
returns c =
    (λ t. values_of held_of (c.remove.ensures t) (nodes_are c t))
    ∙ held_left c.self.inside.places c.self.inside.links.items c.self.inside.nodes c.self.invariant c.args.path.now c.requires.not_root
    c.whole-place.result (place_is c) (childless c)
    ∙ ap (λ m. map.remove m c.args.path.now) c.self.view_is
