use Rattle.std.proofs.Common.{◌≡◌, ◌<◌, ap, sym, ◌∙◌, length, Some, None, arith}
use Rattle.std.proofs.lemmas.List.{get_or_read}
use Rattle.cg_places.specs.Nodes.{new_slot, no_cgroup, node_at, slot_at, shared_at}
use Rattle.cg_places.specs.declared.nodes.Shared.{Shared}
use Rattle.cg_places.specs.declared.nodes.Slot.{Slot}
use Rattle.cg_places.proofs.Seen.{length_seen, node_seen}
use Rattle.cg_places.proofs.nodes.Nodes.cgroup.Goals as goal

within : (c : goal.In-Some) → c.args.at < length c.self.inside.slots.items
within c = omega (arith, c.requires, ap length c.self.view_is, length_seen c.self.inside.shared.items c.self.inside.slots.items)

shares : (c : goal.In-Some) → (slot_at c.self.inside.slots.items c.args.at).shared ≡ Some c.in-Some.index
shares c =
    let slot =
    get_or_read c.self.inside.slots.items c.args.at c.index-slot.result.now (within c) c.index-slot.ensures (new_slot no_cgroup None) in
    ap (λ (s : Slot). s.shared) (sym slot) ∙ c.in-Some.is

pub index-requires : goal.index-requires
index-requires c =
    let l = c.self.invariant.within c.args.at c.in-Some.index (within c) (shares c) in
    omega (arith, l, c.self.inside.shared.ok.0)

pub returns-in-Some : goal.returns-in-Some
returns-in-Some c =
    let shared = c.self.inside.shared.items in
    let slot = slot_at c.self.inside.slots.items c.args.at in
    let l = c.self.invariant.within c.args.at c.in-Some.index (within c.before) (shares c.before) in
    ap (λ (x : Shared). x.cgroup)
    (get_or_read shared c.in-Some.index c.index.result.now l c.index.ensures (record { above = 0; cgroup = no_cgroup }))
    ∙ ap (λ o. elim o [ None ↦ slot.cgroup | Some k ↦ (shared_at shared k).cgroup ]) (sym (shares c.before))
    ∙ ap (λ n. n.cgroup) (sym (node_seen shared c.self.inside.slots.items c.args.at))
    ∙ ap (λ ns. (node_at ns c.args.at).cgroup) c.self.view_is
