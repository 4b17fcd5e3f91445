-- Sets of controllers, read controller by controller, whichever and however many they are.
use Rattle.std.proofs.Common.{◌≡◌, ℕ, ◌<◌, Bool, true, false, not, ◌||◌, cond, refl, sym, ap, subst, ◌∙◌, arith, eqb-true, true≢false}
use Rattle.std.proofs.Common.{List, [], ◌∷◌, length, map, get_or, zero, suc}
use Rattle.std.specs.Prelude.{slice_set}
use Rattle.std.proofs.lemmas.Bool.{and_parts, and_from, not-true}
use Rattle.std.proofs.lemmas.List.{get_or-set_same, get_or-set_other}
use Rattle.std.specs.List.{list_all, list_any, AllByRecursion}
use mathlib.Core.Bool.{beq}
use mathlib.Core.HLevel.{is_prop→PathP}
use native.Mathlib.Nat.{ℕ_set}
use Rattle.cg_cgroup.proofs.Places.{numbers, held_all}
use Rattle.cg_cgroup.specs.Files.{all_controllers, format_2_controllers, controller_kind, same_controller, is_in_format_2, enables, set_by, with_controller, enables_nothing, is_within, is_known, is_of, vocabulary_of}
use Rattle.cg_cgroup.specs.declared.files.Vocabulary.{Vocabulary}
use Rattle.cg_cgroup.specs.declared.files.Vocabulary.TheVariants.{Format2, Format4}
use Rattle.cg_cgroup.specs.declared.files.Controller.{Controller}
use Rattle.cg_cgroup.specs.declared.files.Controller.TheVariants.{Cpu}
use Rattle.cg_cgroup.specs.declared.controllers.ControllerSet.{ControllerSet}

-- ---- the list of controllers

pub number_within : (controller : Controller) → (controller_kind controller).number < length all_controllers
number_within Cpu = omega arith
number_within controller = omega arith

numbered : (controller : Controller) → get_or all_controllers (controller_kind controller).number Cpu ≡ controller
numbered Cpu = refl
numbered controller = refl

pub same_controller-refl : (controller : Controller) → same_controller controller controller ≡ true
same_controller-refl Cpu = refl
same_controller-refl controller = refl

pub same_controller-true : (controller other : Controller) → same_controller controller other ≡ true → controller ≡ other
same_controller-true controller other h =
    sym (numbered controller)
    ∙ ap (λ n. get_or all_controllers n Cpu) (eqb-true (controller_kind controller).number (controller_kind other).number h)
    ∙ numbered other

-- what a list has of all controllers, it has at their numbers
pub mapped_at : {A : Type 0} (f : Controller → A) (none : A) (controller : Controller)
    → get_or (map f all_controllers) (controller_kind controller).number none ≡ f controller
mapped_at f none Cpu = refl
mapped_at f none controller = refl

each_at : (P : Controller → Type 0) (controllers : List Controller) (n : ℕ) → AllByRecursion P controllers → n < length controllers
    → P (get_or controllers n Cpu)
each_at P [] n all within = absurd (omega (arith, within))
each_at P (controller ∷ controllers) zero all within = all.0
each_at P (controller ∷ controllers) (suc n) all within = each_at P controllers n all.1 (omega (arith, within))

-- what holds of all that are listed holds of each
pub each_listed : (P : Controller → Type 0) → AllByRecursion P all_controllers → (controller : Controller) → P controller
each_listed P all controller =
    subst P (numbered controller) (each_at P all_controllers (controller_kind controller).number all (number_within controller))

passing : (test : Controller → Bool) (controllers : List Controller) → list_all test controllers ≡ true
    → AllByRecursion (λ controller. test controller ≡ true) controllers
passing test [] h = tt
passing test (controller ∷ controllers) h = let parts = and_parts _ _ h in (parts.0, passing test controllers parts.1)

-- what a test of all has passed, each passes
pub each_controller : (test : Controller → Bool) → list_all test all_controllers ≡ true → (controller : Controller) → test controller ≡ true
each_controller test h = each_listed (λ controller. test controller ≡ true) (passing test all_controllers h)

all_pass : (test : Controller → Bool) → ((controller : Controller) → test controller ≡ true) → (controllers : List Controller)
    → list_all test controllers ≡ true
all_pass test h [] = refl
all_pass test h (controller ∷ controllers) = and_from _ _ (h controller) (all_pass test h controllers)

pub all_controllers_pass : (test : Controller → Bool) → ((controller : Controller) → test controller ≡ true)
    → list_all test all_controllers ≡ true
all_controllers_pass test h = all_pass test h all_controllers

-- ---- those of formats 1 and 2

each_among : (P : Controller → Type 0) (controller : Controller) (controllers : List Controller) → AllByRecursion P controllers
    → list_any (same_controller controller) controllers ≡ true → P controller
each_among P controller [] all found = absurd (true≢false (sym found))
each_among P controller (front ∷ controllers) all found =
    elim (same_controller controller front) as
    (λ same. same_controller controller front ≡ same → (same || list_any (same_controller controller) controllers) ≡ true → P controller) [
      | true ↦ λ same _. subst P (sym (same_controller-true controller front same)) all.0
      | false ↦ λ _ later. each_among P controller controllers all.1 later
    ] refl found

-- what holds of all that are listed there holds of each that is one of them
pub each_in_format_2 : (P : Controller → Type 0) → AllByRecursion P format_2_controllers → (controller : Controller)
    → is_in_format_2 controller ≡ true → P controller
each_in_format_2 P all controller is = each_among P controller format_2_controllers all is

-- ---- flags

pub flag_same : (x y : Bool) → beq x y ≡ true → x ≡ y
flag_same true true e = refl
flag_same true false e = cc
flag_same false true e = cc
flag_same false false e = refl

pub flag_itself : (x : Bool) → beq x x ≡ true
flag_itself true = refl
flag_itself false = refl

-- ---- sets

pub enables-set_by : (test : Controller → Bool) (controller : Controller) → enables (set_by test) controller ≡ test controller
enables-set_by test controller = mapped_at test false controller

pub enables-with_controller : (set : ControllerSet) (controller : Controller) (on : Bool) (other : Controller)
    → enables (with_controller set controller on) other ≡ cond (same_controller controller other) on (enables set other)
enables-with_controller set controller on other =
    enables-set_by (λ other. cond (same_controller controller other) on (enables set other)) other

pub same_flags : (set other : ControllerSet) → set.flags ≡ other.flags → set ≡ other
same_flags set other same =
    λ i. record {
      flags = same i;
      whole = is_prop→PathP (λ j. length (same j) ≡ length all_controllers) (λ j. ℕ_set _ _) set.whole other.whole i;
    }

-- the flags of a set, in their order
flags_are : (set : ControllerSet) → map (enables set) all_controllers ≡ set.flags
flags_are set = ap (λ count. map (λ n. get_or set.flags n false) (numbers count)) (sym set.whole) ∙ held_all set.flags false

-- two sets with the same controllers are one
pub same_set : (set other : ControllerSet) → ((controller : Controller) → enables set controller ≡ enables other controller) → set ≡ other
same_set set other h =
    same_flags set other (sym (flags_are set) ∙ (λ i. map (λ controller. h controller i) all_controllers) ∙ flags_are other)

-- the set with one flag set
pub flag_set : (set new : ControllerSet) (controller : Controller) (on : Bool)
    → new.flags ≡ slice_set set.flags (controller_kind controller).number on → new ≡ with_controller set controller on
flag_set set new controller on is =
    same_set new (with_controller set controller on) (λ other.
    ap (λ flags. get_or flags (controller_kind other).number false) is ∙ read other ∙ sym (enables-with_controller set controller on other))
  where
    number : ℕ
    number = (controller_kind controller).number

    read : (other : Controller)
        → get_or (slice_set set.flags number on) (controller_kind other).number false
        ≡ cond (same_controller controller other) on (enables set other)
    read other =
        elim (same_controller controller other) as (λ b. same_controller controller other ≡ b
        → get_or (slice_set set.flags number on) (controller_kind other).number false ≡ cond b on (enables set other)) [
          | true ↦ λ e.
              ap (λ at. get_or (slice_set set.flags number on) at false) (sym (eqb-true number (controller_kind other).number e))
              ∙ get_or-set_same set.flags number on false (omega (arith, number_within controller, set.whole))
          | false ↦ λ e. get_or-set_other set.flags number (controller_kind other).number on false (grind (arith, e))
        ] refl

pub enables_nothing-enables : (set : ControllerSet) → enables_nothing set ≡ true → (controller : Controller)
    → enables set controller ≡ false
enables_nothing-enables set h controller = not-true _ (each_controller (λ controller. not (enables set controller)) h controller)

pub enables_nothing-none : (set : ControllerSet) → ((controller : Controller) → enables set controller ≡ false) → enables_nothing set ≡ true
enables_nothing-none set h = all_controllers_pass (λ controller. not (enables set controller)) (λ controller. ap not (h controller))

unless_off : (on other : Bool) → (not on || other) ≡ true → on ≡ true → other ≡ true
unless_off true other h e = h
unless_off false other h e = absurd (true≢false (sym e))

off_or_on : (on other : Bool) → (on ≡ true → other ≡ true) → (not on || other) ≡ true
off_or_on true other h = h refl
off_or_on false other h = refl

pub is_within-enables : (set other : ControllerSet) → is_within set other ≡ true → (controller : Controller) → enables set controller ≡ true
    → enables other controller ≡ true
is_within-enables set other h controller e =
    unless_off _ _ (each_controller (λ controller. not (enables set controller) || enables other controller) h controller) e

pub is_within-each : (set other : ControllerSet)
    → ((controller : Controller) → enables set controller ≡ true → enables other controller ≡ true) → is_within set other ≡ true
is_within-each set other h =
    all_controllers_pass (λ controller. not (enables set controller) || enables other controller)
    (λ controller. off_or_on _ _ (h controller))

-- a set of a vocabulary's controllers has no others
pub enables-known : (vocabulary : Vocabulary) (set : ControllerSet) → is_of vocabulary set ≡ true → (controller : Controller)
    → enables set controller ≡ true → is_known vocabulary controller ≡ true
enables-known vocabulary set h controller e =
    unless_off _ _ (each_controller (λ controller. not (enables set controller) || is_known vocabulary controller) h controller) e

pub known-each : (vocabulary : Vocabulary) (set : ControllerSet)
    → ((controller : Controller) → enables set controller ≡ true → is_known vocabulary controller ≡ true) → is_of vocabulary set ≡ true
known-each vocabulary set h =
    all_controllers_pass (λ controller. not (enables set controller) || is_known vocabulary controller)
    (λ controller. off_or_on _ _ (h controller))

-- ---- the vocabulary of a set

-- it has what the set has, and what formats 1 and 2 have
pub told-known : (set : ControllerSet) (controller : Controller) → (is_in_format_2 controller || enables set controller) ≡ true
    → is_known (vocabulary_of set) controller ≡ true
told-known set controller told =
    elim (is_of Format2 set) as
    (λ b. is_of Format2 set ≡ b → is_known (cond b Format2 Format4) controller ≡ true) [
      | true ↦ λ narrow.
          elim (is_in_format_2 controller) as
          (λ known. (known || enables set controller) ≡ true → is_in_format_2 controller ≡ known → is_in_format_2 controller ≡ true) [
            | true ↦ λ _ is. is
            | false ↦ λ enabled is. enables-known Format2 set narrow controller enabled
          ] told refl
      | false ↦ λ _. refl
    ] refl

-- and no more than one that has each controller of the set
pub vocabulary-least : (vocabulary : Vocabulary) (set : ControllerSet) → is_of vocabulary set ≡ true → (controller : Controller)
    → is_known (vocabulary_of set) controller ≡ true → is_known vocabulary controller ≡ true
vocabulary-least Format2 set narrow controller known =
    subst (λ b. is_known (cond b Format2 Format4) controller ≡ true) narrow known
vocabulary-least Format4 set of controller known = refl
