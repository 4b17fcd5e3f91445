-- What lasts is what hangs on an anchored cgroup.
use Rattle.std.proofs.Common.{◌≡◌, ◌⊎◌, inl, inr, ℕ, zero, suc, ◌+◌, ◌-◌, ◌≤◌, ◌<◌, Bool, true, false, ◌&&◌, ◌||◌, cond, List, length, take, refl, sym, ap, subst, ◌∙◌, true≢false, ⊎_elim, arith, take_all, take-take, length-take-le, eq-eqb, eqb-true, lt-ltb, ltb-true}
use Rattle.std.proofs.lemmas.Bool.{and_parts, and_from, or_left, or_right, or_cases, not-true, cases_lt}
use Rattle.cg_cgroup.specs.Paths.{Names, is_root, parent, inside, below, is_child}
use Rattle.cg_cgroup.specs.Identity.{Identity}
use Rattle.cg_cgroup.specs.Files.{enables}
use Rattle.cg_cgroup.specs.declared.files.Controller.{Controller}
use Rattle.cg_cgroup.proofs.Options.{some_value}
use Rattle.cg_cgroup.proofs.ControllerLaws.{is_within-enables}
use Rattle.cg_cgroup.proofs.PathLaws.{inside_trans}
use Rattle.cg_cgroup.proofs.PathParents.{inside-take, inside-is}
use Rattle.cg_model.specs.States.{State, row_at}
use Rattle.cg_model.specs.WellFormed.{IsWellFormed, has_row, enabled_at, available_at}
use Rattle.cg_model.proofs.Prefixes.{no_root_of_length}
use Rattle.cg_model.proofs.FormedParts.{enabled_at-row}
use Rattle.cg_laws.proofs.Sound.{sound-formed, take-there}
use Rattle.cg_second.specs.Lasting.{Lasting, IsLasting, IsNeverRemoved, IsNeverDisabled}
use Rattle.cg_second.specs.Greatest.{any_child, stays_within, on_within, levels_from, greatest}
use Rattle.cg_second.proofs.Greatest.{row-any, any-row, child_found, stays-greatest, on-greatest}
use Rattle.cg_second.specs.Anchors.{is_anchored, any_below, is_upheld, is_fixed, is_upheld_on}

pub same_bool : (a b : Bool) → (a ≡ true → b ≡ true) → (b ≡ true → a ≡ true) → a ≡ b
same_bool true b there back = sym (there refl)
same_bool false true there back = back refl
same_bool false false there back = refl

-- ---- paths

below_parts : (path q : Names) → below path q ≡ true → (inside path q ≡ true) × (length path < length q)
below_parts path q h = let parts = and_parts _ _ h in (parts.0, ltb-true _ _ parts.1)

pub below_trans : (path q r : Names) → below path q ≡ true → below q r ≡ true → below path r ≡ true
below_trans path q r one two =
    let first = below_parts path q one in
    let second = below_parts q r two in
    and_from _ _ (inside_trans path q r first.0 second.0) (lt-ltb _ _ (omega (arith, first.1, second.1)))

pub child-below : (path child : Names) → is_child path child ≡ true → below path child ≡ true
child-below path child h =
    let parts = and_parts (inside path child) _ h in
    let level = eqb-true (length child) (length path + 1) parts.1 in
    and_from _ _ parts.0 (lt-ltb (length path) (length child) (omega (arith, level)))

inside_front : (path q : Names) (n : ℕ) → inside path q ≡ true → length path ≤ n → inside path (take n q) ≡ true
inside_front path q n h short =
    subst (λ p. inside p (take n q) ≡ true) (take-take (length path) n q short ∙ inside-is path q h) (inside-take (length path) (take n q))

-- the child on the way down
abbrev towards : Names → Names → Names
towards path q = take (length path + 1) q

towards-child : (path q : Names) → below path q ≡ true → is_child path (towards path q) ≡ true
towards-child path q h =
    let parts = below_parts path q h in
    let level : length (towards path q) ≡ length path + 1 = length-take-le (length path + 1) q (omega (arith, parts.1)) in
    and_from _ _ (inside_front path q (length path + 1) parts.0 (omega arith)) (eq-eqb _ _ level)

towards-reaches : (path q : Names) → below path q ≡ true → (towards path q ≡ q) ⊎ (below (towards path q) q ≡ true)
towards-reaches path q h =
    let parts = below_parts path q h in
    let level : length (towards path q) ≡ length path + 1 = length-take-le (length path + 1) q (omega (arith, parts.1)) in
    ⊎_elim
    (λ longer. inr (and_from _ _ (inside-take (length path + 1) q) (lt-ltb _ _ (omega (arith, longer, level)))))
    (λ whole. inl (take_all (length path + 1) q (omega (arith, whole)))) (cases_lt (length path + 1) (length q))

-- ---- what hangs on a cgroup that passes a test

abbrev hangs : State → (Names → Bool) → Names → Bool
hangs st test path = test path || any_below st path test

module _ (st : State) (test : Names → Bool) where
  hangs-on : (path q : Names) → has_row st q ≡ true → (path ≡ q) ⊎ (below path q ≡ true) → test q ≡ true → hangs st test path ≡ true
  hangs-on path q there where_is h =
      ⊎_elim (λ same. or_left _ _ (ap test same ∙ h))
      (λ lower. or_right _ _ (row-any st (λ r. below path r && test r) q there (and_from _ _ lower h))) where_is

  hangs-up : (path q : Names) → has_row st q ≡ true → below path q ≡ true → hangs st test q ≡ true → any_below st path test ≡ true
  hangs-up path q there lower h =
      ⊎_elim
      (λ own. row-any st (λ r. below path r && test r) q there (and_from _ _ lower own))
      (λ any.
      let found = any-row st (λ r. below q r && test r) any in
      let parts = and_parts _ _ found.2 in
      row-any st (λ r. below path r && test r) found.0 found.1 (and_from _ _ (below_trans path q found.0 lower parts.0) parts.1))
      (or_cases _ _ h)

-- ---- that lasts

module _ (st : State) (users : List Identity) (formed : IsWellFormed st) where
  there_towards : (path q : Names) → has_row st q ≡ true → has_row st (towards path q) ≡ true
  there_towards path q there = take-there st (sound-formed st formed) q (length path + 1) there

  enables-up : (more : ℕ) (path q : Names) (controller : Controller) → length q ≡ length path + more → inside path q ≡ true
      → has_row st q ≡ true → enables (enabled_at st q) controller ≡ true → enables (enabled_at st path) controller ≡ true
  enables-up zero path q controller level in_it there on =
      let same : q ≡ path = sym (take_all (length path) q (omega (arith, level))) ∙ inside-is path q in_it in
      ap (λ p. enables (enabled_at st p) controller) (sym same) ∙ on
  enables-up (suc more) path q controller level in_it there on =
      let row = some_value (row_at st q) there in
      let above : enables (enabled_at st (parent q)) controller ≡ true =
      ap (λ root. enables (cond root st.controllers (enabled_at st (parent q))) controller)
      (sym (no_root_of_length q (omega (arith, level))))
      ∙ is_within-enables row.0.enabled (available_at st q) (formed.top_down q row.0 row.1) controller
      (ap (λ set. enables set controller) (sym (enabled_at-row st q row.0 row.1)) ∙ on) in
      let shorter : length (parent q) ≡ length q - 1 = length-take-le (length q - 1) q (omega arith) in
      enables-up more path (parent q) controller (omega (arith, level, shorter))
      (inside_front path q (length q - 1) in_it (omega (arith, level))) (formed.parents q there) above

  abbrev hung : Lasting
  hung = record {
    stays = λ path. has_row st path && is_upheld st users path;
    on = λ path controller. has_row st path && is_upheld_on st users controller path;
    off = λ path controller. false;
  }

  removed : (path : Names) → hung.stays path ≡ true → IsNeverRemoved st users hung path
  removed path h =
      ⊎_elim
      (λ anchored. ⊎_elim inl (λ shut. inr (inl (not-true _ shut))) (or_cases _ _ anchored))
      (λ any.
      let found = any-row st (λ q. below path q && is_anchored st users q) any in
      let parts = and_parts _ _ found.2 in
      inr (inr (
        towards path found.0,
        towards-child path found.0 parts.0,
        and_from _ _ (there_towards path found.0 found.1)
            (hangs-on st (is_anchored st users) (towards path found.0) found.0 found.1 (towards-reaches path found.0 parts.0) parts.1),
      )))
      (or_cases _ _ (and_parts _ _ h).1)

  fixed_kept : (path : Names) (controller : Controller) → is_upheld_on st users controller path ≡ true → is_upheld st users path ≡ true
  fixed_kept path controller h =
      ⊎_elim (λ fixed. (and_parts _ _ fixed).0)
      (λ any.
      let found = any-row st (λ q. below path q && is_fixed st users controller q) any in
      let parts = and_parts _ _ found.2 in
      or_right _ _ (hangs-up st (is_anchored st users) path found.0 found.1 parts.0 (and_parts _ _ parts.1).0))
      (or_cases _ _ h)

  level : (path q : Names) → length path < length q → length q ≡ length path + (length q - length path)
  level path q longer = omega (arith, longer)

  disabled : (path : Names) (controller : Controller) → hung.on path controller ≡ true → IsNeverDisabled st users hung path controller
  disabled path controller h =
      ⊎_elim
      (λ fixed. let parts = and_parts _ _ (and_parts _ _ fixed).1 in (parts.0, inl (not-true _ parts.1)))
      (λ any.
      let found = any-row st (λ q. below path q && is_fixed st users controller q) any in
      let parts = and_parts _ _ found.2 in
      let lower = below_parts path found.0 parts.0 in
      let fixed = and_parts _ _ (and_parts _ _ parts.1).1 in (
        enables-up (length found.0 - length path) path found.0 controller (level path found.0 lower.1) lower.0 found.1 fixed.0,
        inr (
          towards path found.0,
          towards-child path found.0 parts.0,
          and_from _ _ (there_towards path found.0 found.1)
              (hangs-on st (is_fixed st users controller) (towards path found.0) found.0 found.1 (towards-reaches path found.0 parts.0)
              parts.1),
        ),
      ))
      (or_cases _ _ (and_parts _ _ h).1)

  lasts : IsLasting st users hung
  lasts = record {
    there = λ path h. (and_parts _ _ h).0;
    removed = removed;
    stays = λ path controller h. and_from _ _ (and_parts _ _ h).0 (fixed_kept path controller (and_parts _ _ h).1);
    disabled = disabled;
    stays_too = λ path controller h. absurd (true≢false (sym h));
    enabled = λ path controller h. absurd (true≢false (sym h));
  }

  -- ---- and all that lasts hangs

  within-there : (levels : ℕ) (path : Names) → stays_within st users levels path ≡ true → has_row st path ≡ true
  within-there zero path h = absurd (true≢false (sym h))
  within-there (suc levels) path h = (and_parts _ _ h).0

  within-kept : (levels : ℕ) (path : Names) → stays_within st users levels path ≡ true → is_upheld st users path ≡ true
  within-kept zero path h = absurd (true≢false (sym h))
  within-kept (suc levels) path h =
      ⊎_elim (λ root. or_left (is_anchored st users path) _ (or_left (is_root path) _ root))
      (λ more. ⊎_elim (λ shut. or_left (is_anchored st users path) _ (or_right (is_root path) _ shut))
      (λ any.
      let child = child_found st path (stays_within st users levels) any in
      or_right (is_anchored st users path) _ (hangs-up st (is_anchored st users) path child.0 (within-there levels child.0 child.2)
      (child-below path child.0 child.1) (within-kept levels child.0 child.2)))
      (or_cases _ _ more)) (or_cases _ _ (and_parts _ _ h).1)

  on-there : (levels : ℕ) (path : Names) (controller : Controller) → on_within st users levels path controller ≡ true
      → has_row st path ≡ true
  on-there zero path controller h = absurd (true≢false (sym h))
  on-there (suc levels) path controller h = within-there (suc levels) path (and_parts _ _ h).0

  on-kept : (levels : ℕ) (path : Names) (controller : Controller) → on_within st users levels path controller ≡ true
      → is_upheld_on st users controller path ≡ true
  on-kept zero path controller h = absurd (true≢false (sym h))
  on-kept (suc levels) path controller h =
      let parts = and_parts _ _ h in
      let more = and_parts _ _ parts.1 in
      ⊎_elim (λ shut. or_left _ _ (and_from _ _ (within-kept (suc levels) path parts.0) (and_from _ _ more.0 shut)))
      (λ any.
      let child = child_found st path (λ child. on_within st users levels child controller) any in
      or_right _ _ (hangs-up st (is_fixed st users controller) path child.0 (on-there levels child.0 controller child.2)
      (child-below path child.0 child.1) (on-kept levels child.0 controller child.2)))
      (or_cases _ _ more.1)

  pub stays-kept : (path : Names) → (greatest st users).stays path ≡ has_row st path && is_upheld st users path
  stays-kept path =
      same_bool _ _
      (λ h. and_from _ _ (within-there (levels_from st path) path h) (within-kept (levels_from st path) path h))
      (stays-greatest st users hung lasts path)

  pub on-kept_on : (path : Names) (controller : Controller)
      → (greatest st users).on path controller ≡ has_row st path && is_upheld_on st users controller path
  on-kept_on path controller =
      same_bool _ _
      (λ h. and_from _ _ (on-there (levels_from st path) path controller h) (on-kept (levels_from st path) path controller h))
      (on-greatest st users hung lasts path controller)

  -- all above one that stays do
  pub kept-above : (path : Names) (n : ℕ) → (greatest st users).stays path ≡ true → (greatest st users).stays (take n path) ≡ true
  kept-above path n h =
      let parts = and_parts (has_row st path) _ (sym (stays-kept path) ∙ h) in
      stays-kept (take n path)
      ∙ and_from _ _ (take-there st (sound-formed st formed) path n parts.0)
      (⊎_elim
      (λ more. or_right (is_anchored st users (take n path)) _ (hangs-up st (is_anchored st users) (take n path) path parts.0
      (and_from _ _ (inside-take n path)
      (lt-ltb (length (take n path)) (length path)
      (let level = length-take-le n path (omega (arith, more)) in omega (arith, level, more)))) parts.1))
      (λ whole. ap (is_upheld st users) (take_all n path whole) ∙ parts.1) (cases_lt n (length path)))

  -- a child goes on enabling where one below does
  pub child-on : (path : Names) (controller : Controller)
      → any_child st path (λ child. (greatest st users).on child controller) ≡ any_below st path (is_fixed st users controller)
  child-on path controller = same_bool _ _ down up
    where
      down : any_child st path (λ child. (greatest st users).on child controller) ≡ true
          → any_below st path (is_fixed st users controller) ≡ true
      down any =
          let child = child_found st path (λ child. (greatest st users).on child controller) any in
          let parts = and_parts (has_row st child.0) _ (sym (on-kept_on child.0 controller) ∙ child.2) in
          hangs-up st (is_fixed st users controller) path child.0 parts.0 (child-below path child.0 child.1) parts.1

      up : any_below st path (is_fixed st users controller) ≡ true
          → any_child st path (λ child. (greatest st users).on child controller) ≡ true
      up any =
          let found = any-row st (λ q. below path q && is_fixed st users controller q) any in
          let parts = and_parts (below path found.0) _ found.2 in
          let child = towards path found.0 in
          let there = there_towards path found.0 found.1 in
          row-any st (λ q. is_child path q && (greatest st users).on q controller) child there
          (and_from _ _ (towards-child path found.0 parts.0)
          (on-kept_on child controller ∙ and_from _ _ there
          (hangs-on st (is_fixed st users controller) child found.0 found.1 (towards-reaches path found.0 parts.0) parts.1)))
