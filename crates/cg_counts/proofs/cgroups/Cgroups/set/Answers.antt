use Rattle.std.proofs.Common.{◌≡◌, ap, sym, ◌∙◌, subst, is_some, option_map}
use Rattle.std.specs.Prelude.{slice_set}
use Rattle.std.specs.FinMap as map
use Rattle.std.specs.Vec.{with_items}
use Rattle.cg_cgroup.proofs.Options.{same_some, is_some-mapped}
use Rattle.cg_places.specs.Links.{no_link, link_at, with_limits}
use Rattle.cg_places.specs.Nodes.{node_at}
use Rattle.cg_places.specs.Values.{values_of}
use Rattle.cg_counts.specs.Kept.{held_of, AreKept, with_row_of, change_held}
use Rattle.cg_counts.proofs.Read.{held_is}
use Rattle.cg_places.proofs.Puts.{set_through}
use Rattle.cg_counts.proofs.Changed.{kept_put, held_put}
use Rattle.cg_counts.proofs.cgroups.Cgroups.set.Goals as goal

pub whole-place-requires : goal.whole-place-requires
whole-place-requires c =
    let q = c.args.path.now in
    sym (ap is_some (held_is c.self.inside.places c.self.inside.nodes c.args.self.now c.self.view_is q)
    ∙ is_some-mapped _ (map.get c.self.inside.places q))
    ∙ sym (is_some-mapped (λ held. held.cgroup.enabled) (map.get c.args.self.now q))
    ∙ ap is_some c.requires

-- the cgroup that was there enables the same
same : (c : goal.After-self-1) → c.args.cgroup.enabled ≡ (node_at c.self.inside.nodes c.whole-place.result).cgroup.enabled
same c =
    let nodes = c.self.inside.nodes in
    same_some _ _ (sym c.requires ∙ ap (option_map (λ held. held.cgroup.enabled))
    (held_is c.self.inside.places nodes c.args.self.now c.self.view_is c.args.path.now
    ∙ ap (option_map (λ i. held_of (node_at nodes i))) c.whole-place.ensures))

links_are : (c : goal.After-self-1) → (with_items c.self.inside.links c.put_limits.new.links).items
    ≡ slice_set c.self.inside.links.items c.whole-place.result
    (with_limits c.args.cgroup (link_at c.self.inside.links.items c.whole-place.result))
links_are c =
    set_through c.self.inside.links c.whole-place.result (with_limits c.args.cgroup) no_link c.deref_mut.result.now c.put_limits.new.links
    c.deref_mut.ensures.value c.put_limits.auto.links c.put_limits.ensures

pub invariant_of-self : goal.invariant_of-self
invariant_of-self c =
    subst (λ ls. AreKept c.self.inside.places ls c.put.new.self) (sym (links_are c))
    (subst (AreKept c.self.inside.places _) (sym c.put.ensures)
    (kept_put c.self.inside.places c.self.inside.links.items c.self.inside.nodes c.self.invariant c.args.path.now c.whole-place.result
    c.whole-place.ensures c.args.cgroup (same c)))

pub returns : goal.returns
returns c =
    ap (values_of held_of c.self.inside.places) c.put.ensures
    ∙ held_put c.self.inside.places c.self.inside.links.items c.self.inside.nodes c.self.invariant c.args.path.now c.whole-place.result
    c.whole-place.ensures c.args.cgroup (same c)
    ∙ ap (λ m. change_held m c.args.path.now (with_row_of c.args.cgroup)) c.self.view_is
