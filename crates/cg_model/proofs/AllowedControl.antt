-- Where nothing bars a write of changes, the cgroup may enable what they leave.
use Rattle.std.proofs.lemmas.Bool.{false_from_ne_true}
use Rattle.std.proofs.Common.{◌≡◌, Bool, true, false, not, ◌&&◌, ◌||◌, List, [], Option, Some, None, unwrap_or, refl, sym, ap, ◌∙◌, subst, true≢false}
use Rattle.cg_cgroup.specs.Paths.{Names, is_root, parent}
use Rattle.cg_cgroup.specs.Identity.{Identity}
use Rattle.cg_cgroup.specs.Files.{all_controllers, enables, enables_nothing, is_within}
use Rattle.cg_model.specs.States.{State, row_at, has_live, child_enables}
use Rattle.cg_model.specs.WellFormed.{IsWellFormed, MayEnable, enabled_at, available_at, may_hold}
use Rattle.cg_cgroup.specs.declared.files.Controller.{Controller}
use Rattle.cg_cgroup.specs.declared.controllers.ControllerSet.{ControllerSet}
use Rattle.cg_cgroup.specs.declared.cgroup.Cgroup.{Cgroup}
use Rattle.cg_cgroup.proofs.PathOrder.{same_path-is}
use Rattle.cg_cgroup.proofs.PathParents.{parent-is_child, is_root-is_child}
use Rattle.cg_cgroup.proofs.ControllerLaws.{enables-set_by, each_listed, enables_nothing-enables, enables_nothing-none, is_within-enables, is_within-each}
use Rattle.cg_model.proofs.StateTests.{child_enables-row, has_live-process}
use Rattle.cg_model.proofs.FormedParts.{may_hold-row, enabled_at-row}
use Rattle.cg_model.specs.Changes.{effective, enabled_after}
use Rattle.cg_model.specs.Bars.{change_bars, changes_bars, control_bars}
use Rattle.cg_model.specs.declared.changes.Change.{Change}
use Rattle.cg_model.proofs.ClauseLaws.{no_parts, no_unless, no_present, none_each}

pub enables-enabled_after : (enabled : ControllerSet) (changes : List Change) (controller : Controller)
    → enables (enabled_after enabled changes) controller ≡ unwrap_or (effective changes controller) (enables enabled controller)
enables-enabled_after enabled changes =
    enables-set_by (λ controller. unwrap_or (effective changes controller) (enables enabled controller))

-- what a child enables, its parent does
child_enables-parent : (st : State) (path : Names) (row : Cgroup) (controller : Controller) → IsWellFormed st → row_at st path ≡ Some row
    → child_enables st path controller ≡ true → enables row.enabled controller ≡ true
child_enables-parent st path row controller whole is h =
    let found = child_enables-row st path controller h in
    let below : available_at st found.0 ≡ enabled_at st (parent found.0) = simp (is_root-is_child path found.0 found.3) in
    let within : available_at st found.0 ≡ row.enabled =
    below ∙ ap (enabled_at st) (parent-is_child path found.0 found.3) ∙ enabled_at-row st path row is in
    is_within-enables found.1.enabled row.enabled
    (subst (λ set. is_within found.1.enabled set ≡ true) within (whole.top_down found.0 found.1 found.2)) controller found.4

module _ (st : State) (path : Names) (row : Cgroup) (controller : Controller) where
  on_available : (change : Option Bool) → change_bars st path row controller change ≡ []
      → (enables row.enabled controller ≡ true → enables (available_at st path) controller ≡ true)
      → unwrap_or change (enables row.enabled controller) ≡ true → enables (available_at st path) controller ≡ true
  on_available None h before on = before on
  on_available (Some true) h before on = no_unless _ _ h
  on_available (Some false) h before on = absurd (true≢false (sym on))

  used_below : (enabled child : Bool) → not (enabled && child) ≡ true → enabled ≡ true → child ≡ true → false ≡ true
  used_below true true h e c = h
  used_below true false h e c = c
  used_below false child h e c = e

  on_children : (change : Option Bool) → change_bars st path row controller change ≡ []
      → (child_enables st path controller ≡ true → enables row.enabled controller ≡ true)
      → child_enables st path controller ≡ true → unwrap_or change (enables row.enabled controller) ≡ true
  on_children None h before child = before child
  on_children (Some true) h before child = refl
  on_children (Some false) h before child = used_below _ _ (no_unless _ _ h) (before child) child

-- a cgroup other than the root that has a process enables nothing
live-enables_nothing : (st : State) (path : Names) (row : Cgroup) → IsWellFormed st → row_at st path ≡ Some row → has_live st path ≡ true
    → (is_root path || enables_nothing row.enabled) ≡ true
live-enables_nothing st path row whole is live =
    let found = has_live-process st path live in
    let at : found.1.place ≡ path = same_path-is _ _ found.3 in
    let held = may_hold-row st path (subst (λ p. may_hold st p ≡ true) at (whole.places found.0 found.1 found.2)) in
    let same : held.0 ≡ row = cc in
    subst (λ r. (is_root path || enables_nothing r.enabled) ≡ true) same held.2

within-nothing : (set other : ControllerSet) → is_within set other ≡ true → enables_nothing other ≡ true → enables_nothing set ≡ true
within-nothing set other within nothing =
    enables_nothing-none set (λ controller. false_from_ne_true _
    (λ on. true≢false (sym (is_within-enables set other within controller on) ∙ enables_nothing-enables other nothing controller)))

no_internal_cases : (root within nothing live before : Bool) → (root || (within || not live)) ≡ true
    → (live ≡ true → (root || before) ≡ true) → (within ≡ true → before ≡ true → nothing ≡ true) → (root || (nothing || not live)) ≡ true
no_internal_cases true within nothing live before h held kept = refl
no_internal_cases false within true live before h held kept = refl
no_internal_cases false within false false before h held kept = refl
no_internal_cases false true false true before h held kept = kept refl (held refl)
no_internal_cases false false false true before h held kept = h

pub each_change : (st : State) (path : Names) (changes : List Change) (row : Cgroup) → changes_bars st path changes row ≡ []
    → (controller : Controller) → change_bars st path row controller (effective changes controller) ≡ []
each_change st path changes row h =
    each_listed (λ controller. change_bars st path row controller (effective changes controller) ≡ [])
    (none_each (λ controller. change_bars st path row controller (effective changes controller)) all_controllers (no_parts _ _ h).0)

module _ (st : State) (path : Names) (changes : List Change) (row : Cgroup) (whole : IsWellFormed st) (is : row_at st path ≡ Some row)
    (h : changes_bars st path changes row ≡ []) where
  pub may_enable : MayEnable st path (enabled_after row.enabled changes)
  may_enable = record {
    available = is_within-each (enabled_after row.enabled changes) (available_at st path) (λ controller on.
        on_available st path row controller (effective changes controller) (each_change st path changes row h controller)
        (is_within-enables row.enabled (available_at st path) (whole.top_down path row is) controller)
        (sym (enables-enabled_after row.enabled changes controller) ∙ on));
    children = λ controller child.
        enables-enabled_after row.enabled changes controller
        ∙ on_children st path row controller (effective changes controller) (each_change st path changes row h controller)
        (child_enables-parent st path row controller whole is) child;
    no_internal =
        no_internal_cases (is_root path) (is_within (enabled_after row.enabled changes) row.enabled)
        (enables_nothing (enabled_after row.enabled changes)) (has_live st path) (enables_nothing row.enabled)
        (no_unless _ _ (no_parts _ _ h).1) (live-enables_nothing st path row whole is)
        (within-nothing (enabled_after row.enabled changes) row.enabled);
  }

-- where nothing bars a control
pub allowed_control : (st : State) (user : Identity) (path : Names) (changes : List Change) (row : Cgroup)
    → control_bars st user path changes ≡ [] → IsWellFormed st → row_at st path ≡ Some row
    → MayEnable st path (enabled_after row.enabled changes)
allowed_control st user path changes row h whole is = may_enable st path changes row whole is (no_present _ _ (no_parts _ _ h).1 row is)
