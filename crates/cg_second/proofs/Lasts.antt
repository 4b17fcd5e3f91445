-- What lasts of a tree goes on lasting after a step of one of the users.
use Rattle.std.proofs.Common.{◌≡◌, inl, inr, Bool, true, false, cond, List, [], refl, sym, ap, ◌∙◌, subst, true≢false, Option, Some, None, unwrap_or, ⊎_elim}
use Rattle.std.specs.List.{Contains}
use Rattle.std.proofs.lemmas.Bool.{false_from_ne_true, and_from, not_from_true}
use Rattle.cg_cgroup.specs.Paths.{Names, is_root, same_path, parent}
use Rattle.cg_cgroup.specs.Identity.{Identity}
use Rattle.cg_cgroup.specs.Files.{enables}
use Rattle.cg_cgroup.specs.declared.files.Controller.{Controller}
use Rattle.cg_cgroup.specs.declared.controllers.ControllerSet.{ControllerSet}
use Rattle.cg_cgroup.specs.declared.files.EntryName.TheVariants.{Dir, SubtreeControl}
use Rattle.cg_cgroup.specs.declared.cgroup.Cgroup.{Cgroup}
use Rattle.cg_cgroup.proofs.Options.{some_value}
use Rattle.cg_cgroup.proofs.PathOrder.{same_path-is}
use Rattle.cg_model.specs.States.{State, row_at, has_child, child_enables}
use Rattle.cg_model.specs.WellFormed.{has_row, enabled_at, available_at}
use Rattle.cg_model.specs.Changes.{effective, enabled_after}
use Rattle.cg_model.specs.Bars.{bars, change_bars}
use Rattle.cg_model.specs.Steps.{after}
use Rattle.cg_model.specs.declared.changes.Change.{Change}
use Rattle.cg_model.specs.declared.operation.Op.{Op}
use Rattle.cg_model.specs.declared.operation.Op.TheVariants.{Control, Mkdir, Rmdir}
use Rattle.cg_model.specs.Effects.{alters_row, alters_enabled}
use Rattle.cg_model.proofs.Allowed.{allowed_mkdir, allowed_rmdir}
use Rattle.cg_model.proofs.AllowedControl.{enables-enabled_after, each_change}
use Rattle.cg_model.proofs.ClauseLaws.{no_unless}
use Rattle.cg_model.proofs.FormedEnabled.{enabled_at-with_enabled-same}
use Rattle.cg_model.proofs.FormedParts.{enabled_at-row}
use Rattle.cg_model.proofs.StateTests.{row-has_child, row-child_enables}
use Rattle.cg_model.proofs.StepEffects.{has_row-after, enabled_at-after, controllers-after}
use Rattle.cg_model.proofs.StepFormed.{after-allowed}
use Rattle.cg_laws.specs.Sound.{IsSound}
use Rattle.cg_laws.proofs.Untouched.{there-other}
use Rattle.cg_second.specs.Lasting.{is_reached, Lasting, IsLasting, IsNeverRemoved, IsNeverDisabled, IsNeverAvailable, IsNeverEnabled}
use Rattle.cg_second.proofs.Reached.{unreached-after, keeps_file, elsewhere}
use Rattle.cg_second.proofs.Asked.{rmdir-reaches, control-asks}

-- ---- a change of one controller

-- what a change leaves enabled where it may not be disabled, and disabled where it may not be enabled
still_on : (st : State) (at : Names) (row : Cgroup) (controller : Controller) (change : Option Bool)
    → change_bars st at row controller change ≡ [] → enables row.enabled controller ≡ true → child_enables st at controller ≡ true
    → unwrap_or change (enables row.enabled controller) ≡ true
still_on st at row controller None free on used = on
still_on st at row controller (Some true) free on used = refl
still_on st at row controller (Some false) free on used =
    absurd (true≢false (sym (no_unless _ _ free) ∙ not_from_true _ (and_from _ _ on used)))

still_off : (st : State) (at : Names) (row : Cgroup) (controller : Controller) (change : Option Bool)
    → change_bars st at row controller change ≡ [] → enables row.enabled controller ≡ false
    → enables (available_at st at) controller ≡ false
    → unwrap_or change (enables row.enabled controller) ≡ false
still_off st at row controller None free off away = off
still_off st at row controller (Some true) free off away = absurd (true≢false (sym (no_unless _ _ free) ∙ away))
still_off st at row controller (Some false) free off away = refl

-- ---- a step that nothing bars

module _ (st : State) (users : List Identity) (user : Identity) (named : Contains users user) (lasting : Lasting)
    (lasts : IsLasting st users lasting) (sound : IsSound st) where
  -- an rmdir is of no cgroup that stays
  rmdir-other : (removed path : Names) → bars st user (Rmdir removed) ≡ [] → lasting.stays path ≡ true → same_path removed path ≡ false
  rmdir-other removed path free stays = false_from_ne_true (same_path removed path) (λ same.
      let is = same_path-is removed path same in
      let allowed = allowed_rmdir st user removed free in
      ⊎_elim (λ root. true≢false (sym root ∙ ap is_root (sym is) ∙ allowed.not_root))
      (⊎_elim
      (λ unreached. true≢false (sym (rmdir-reaches st users user named sound removed free)
      ∙ ap (λ p. is_reached st users (parent p) Dir) is ∙ unreached))
      (λ child.
      let row = some_value (row_at st child.0) (lasts.there child.0 child.2) in
      true≢false (sym (row-has_child st path child.0 row.0 row.1 child.1) ∙ ap (has_child st) (sym is) ∙ allowed.no_child)))
      (lasts.removed path stays))

  pub row-stays : (op : Op) → bars st user op ≡ [] → (path : Names) → lasting.stays path ≡ true → alters_row op path ≡ false
  row-stays (Mkdir made) free path stays = there-other st made path (allowed_mkdir st user made free).0 (lasts.there path stays)
  row-stays (Rmdir removed) free path stays = rmdir-other removed path free stays
  row-stays op free path stays = refl

  pub stays-there : (op : Op) → bars st user op ≡ [] → (path : Names) → lasting.stays path ≡ true
      → has_row (after st user op) path ≡ true
  stays-there op free path stays = has_row-after st user op path (row-stays op free path stays) ∙ lasts.there path stays

  never_removed : (op : Op) → bars st user op ≡ [] → (path : Names) → lasting.stays path ≡ true
      → IsNeverRemoved (after st user op) users lasting path
  never_removed op free path stays =
      ⊎_elim inl (⊎_elim
      (λ unreached.
      let above = sound.parents path (lasts.there path stays) in
      inr (inl (unreached-after st users user named (parent path) Dir above unreached op free
      (keeps_file st user op (parent path) Dir refl))))
      (λ child. inr (inr child))) (lasts.removed path stays)

  -- ---- what a cgroup enables

  -- a reading of what a cgroup that is there before and after enables: as it was, or by a control of it
  enabled-by : (P : ControllerSet → Type 0) (op : Op) → bars st user op ≡ [] → (path : Names) → has_row st path ≡ true
      → has_row (after st user op) path ≡ true → P (enabled_at st path)
      → ((changes : List Change) → bars st user (Control path changes) ≡ [] → P (enabled_after (enabled_at st path) changes))
      → P (enabled_at (after st user op) path)
  enabled-by P op free path there new same set = by_op op free new
    where
      kept : (op : Op) → alters_enabled op path ≡ false → P (enabled_at (after st user op) path)
      kept op h = subst P (sym (enabled_at-after st user op path h)) same

      by_op : (op : Op) → bars st user op ≡ [] → has_row (after st user op) path ≡ true → P (enabled_at (after st user op) path)
      by_op (Control at changes) free new =
          elim (same_path at path) as (λ b. same_path at path ≡ b → P (enabled_at (after st user (Control at changes)) path)) [
            | true ↦ λ tied.
                let is = same_path-is at path tied in
                let made =
                ap (λ s. enabled_at s at) (after-allowed st user (Control at changes) free)
                ∙ enabled_at-with_enabled-same st at (enabled_after (enabled_at st at) changes) user (ap (has_row st) is ∙ there) in
                subst (λ p. P (enabled_at (after st user (Control at changes)) p)) is
                (subst P (sym made) (subst (λ p. P (enabled_after (enabled_at st p) changes)) (sym is)
                (set changes (subst (λ p. bars st user (Control p changes) ≡ []) is free))))
            | false ↦ λ other. kept (Control at changes) other
          ] refl
      by_op (Mkdir made) free new = kept (Mkdir made) (there-other st made path (allowed_mkdir st user made free).0 there)
      by_op (Rmdir removed) free new = kept (Rmdir removed) (elsewhere st user removed path free new)
      by_op op free new = kept op refl

  pub never_disabled : (op : Op) → bars st user op ≡ [] → (path : Names) (controller : Controller) → has_row st path ≡ true
      → has_row (after st user op) path ≡ true → IsNeverDisabled st users lasting path controller
      → IsNeverDisabled (after st user op) users lasting path controller
  never_disabled op free path controller there new is = (
    enabled-by (λ set. enables set controller ≡ true) op free path there new is.0 set,
    ⊎_elim
        (λ unreached. inl (unreached-after st users user named path SubtreeControl there unreached op free
        (keeps_file st user op path SubtreeControl refl)))
        inr is.1,
  )
    where
      set : (changes : List Change) → bars st user (Control path changes) ≡ []
          → enables (enabled_after (enabled_at st path) changes) controller ≡ true
      set changes may =
          let asks = control-asks st users user named path changes may in
          let row = enabled_at-row st path asks.0 asks.1 in
          let used : child_enables st path controller ≡ true =
          ⊎_elim (λ unreached. absurd (true≢false (sym asks.2 ∙ unreached)))
          (λ child.
          let below = some_value (row_at st child.0) (lasts.there child.0 (lasts.stays child.0 controller child.2)) in
          row-child_enables st path child.0 below.0 controller below.1 child.1
          (ap (λ set. enables set controller) (sym (enabled_at-row st child.0 below.0 below.1))
          ∙ (lasts.disabled child.0 controller child.2).0))
          is.1 in
          enables-enabled_after (enabled_at st path) changes controller
          ∙ ap (λ set. unwrap_or (effective changes controller) (enables set controller)) row
          ∙ still_on st path asks.0 controller (effective changes controller) (each_change st path changes asks.0 asks.3 controller)
          (ap (λ set. enables set controller) (sym row) ∙ is.0) used

  -- what never becomes available isn't
  unavailable : (path : Names) (controller : Controller) → IsNeverAvailable st users lasting path controller
      → enables (available_at st path) controller ≡ false
  unavailable path controller =
      ⊎_elim (λ root. ap (λ b. enables (cond b st.controllers (enabled_at st (parent path))) controller) root.0 ∙ root.1)
      (λ above. ap (λ b. enables (cond b st.controllers (enabled_at st (parent path))) controller) above.0
      ∙ (lasts.enabled (parent path) controller above.1).0)

  never_enabled : (op : Op) → bars st user op ≡ [] → (path : Names) (controller : Controller) → lasting.off path controller ≡ true
      → IsNeverEnabled (after st user op) users lasting path controller
  never_enabled op free path controller off = (
    enabled-by (λ set. enables set controller ≡ false) op free path there (stays-there op free path stays) is.0 set,
    ⊎_elim
        (λ unreached. inl (unreached-after st users user named path SubtreeControl there unreached op free
        (keeps_file st user op path SubtreeControl refl)))
        (λ away. inr (⊎_elim
        (λ root. inl (root.0, ap (λ set. enables set controller) (controllers-after st user op) ∙ root.1)) inr away)) is.1,
  )
    where
      is : IsNeverEnabled st users lasting path controller
      is = lasts.enabled path controller off

      stays : lasting.stays path ≡ true
      stays = lasts.stays_too path controller off

      there : has_row st path ≡ true
      there = lasts.there path stays

      set : (changes : List Change) → bars st user (Control path changes) ≡ []
          → enables (enabled_after (enabled_at st path) changes) controller ≡ false
      set changes may =
          let asks = control-asks st users user named path changes may in
          let row = enabled_at-row st path asks.0 asks.1 in
          let away : enables (available_at st path) controller ≡ false =
          ⊎_elim (λ unreached. absurd (true≢false (sym asks.2 ∙ unreached))) (unavailable path controller) is.1 in
          enables-enabled_after (enabled_at st path) changes controller
          ∙ ap (λ set. unwrap_or (effective changes controller) (enables set controller)) row
          ∙ still_off st path asks.0 controller (effective changes controller) (each_change st path changes asks.0 asks.3 controller)
          (ap (λ set. enables set controller) (sym row) ∙ is.0) away

  pub lasting-after : (op : Op) → bars st user op ≡ [] → IsLasting (after st user op) users lasting
  lasting-after op free = record {
    there = stays-there op free;
    removed = never_removed op free;
    stays = lasts.stays;
    disabled = λ path controller on.
        let stays = lasts.stays path controller on in
        never_disabled op free path controller (lasts.there path stays) (stays-there op free path stays)
        (lasts.disabled path controller on);
    stays_too = lasts.stays_too;
    enabled = never_enabled op free;
  }
