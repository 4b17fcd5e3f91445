-- Cgroups refitted one by one.
use Rattle.std.proofs.Common.{◌≡◌, ℕ, ◌<◌, ◌≤◌, ◌&&◌, cond, nat_eq, List, length}
use Rattle.std.specs.Prelude.{is_none}
use Rattle.cg_cgroup.specs.declared.controllers.ControllerSet.{ControllerSet}
use Rattle.cg_cgroup.specs.declared.cgroup.Cgroup.{Cgroup}
use Rattle.cg_places.specs.Nodes.{shared_at, slot_at, refitted_shared, refitted_slot, links_to}
use Rattle.cg_places.specs.declared.links.Link.{Link}
use Rattle.cg_places.specs.declared.nodes.Shared.{Shared}
use Rattle.cg_places.specs.declared.nodes.Slot.{Slot}

-- those before `n` have the files, and the others are as they were
pub record SharedBelow (at : ℕ) (changed : ControllerSet) (fresh : Cgroup) (old new : List Shared) (n : ℕ) : Type 0 where
  pub len : length new ≡ length old
  pub each : (i : ℕ) → i < n → i < length old
      → shared_at new i ≡ cond (nat_eq (shared_at old i).above at) (refitted_shared changed fresh (shared_at old i)) (shared_at old i)
  pub rest : (i : ℕ) → n ≤ i → shared_at new i ≡ shared_at old i

pub record SlotsBelow (links : List Link) (at : ℕ) (changed : ControllerSet) (fresh : Cgroup) (old new : List Slot) (n : ℕ) : Type 0 where
  pub len : length new ≡ length old
  pub each : (i : ℕ) → i < n → i < length old → slot_at new i
      ≡ cond (links_to links at i && is_none (slot_at old i).shared) (refitted_slot changed fresh (slot_at old i)) (slot_at old i)
  pub rest : (i : ℕ) → n ≤ i → slot_at new i ≡ slot_at old i
