use Rattle.std.proofs.Common.{◌≡◌, None, ap, sym, refl, subst, length, arith}
use Rattle.std.specs.Prelude.{slice_set}
use Rattle.std.specs.Vec.{with_items}
use Rattle.cg_places.specs.Nodes.{new_slot, no_cgroup, slot_at, AreShared, with_own, with_cgroup}
use Rattle.cg_places.proofs.Puts.{set_through}
use Rattle.cg_places.proofs.Seen.{length_seen, changed_seen, are_set, no_share}
use Rattle.cg_places.proofs.nodes.Nodes.put.Goals as goal

slots_are : (c : goal.After-self-1) → (with_items c.self.inside.slots c.put_own.new.slots).items
    ≡ slice_set c.self.inside.slots.items c.args.at (with_own c.args.cgroup (slot_at c.self.inside.slots.items c.args.at))
slots_are c =
    set_through c.self.inside.slots c.args.at (with_own c.args.cgroup) (new_slot no_cgroup None) c.deref_mut.result.now c.put_own.new.slots
    c.deref_mut.ensures.value c.put_own.auto.slots c.put_own.ensures

pub invariant_of-self : goal.invariant_of-self
invariant_of-self c =
    let shared = c.self.inside.shared.items in
    let slots = c.self.inside.slots.items in
    subst (AreShared shared) (sym (slots_are c))
    (are_set shared slots c.args.at (with_own c.args.cgroup (slot_at slots c.args.at)) c.self.invariant (λ k is. no_share k is)
    (omega (arith, c.requires, ap length c.self.view_is, length_seen shared slots)))

pub returns : goal.returns
returns c =
    changed_seen c.self.inside.shared.items c.self.inside.slots.items _ c.args.self.now c.args.at (with_own c.args.cgroup)
    (with_cgroup c.args.cgroup) c.self.view_is (λ slot. refl) (slots_are c)
