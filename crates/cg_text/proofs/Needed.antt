-- The controllers of the files that are named are within a set exactly where each named file stands under it.
use Rattle.std.proofs.Common.{◌≡◌, Bool, true, false, not, ◌&&◌, ◌||◌, Option, Some, None, List, [], ◌∷◌, refl, sym, ap, ◌∙◌, true≢false, arith}
use Rattle.std.specs.List.{list_all, list_any}
use Rattle.std.proofs.lemmas.Bool.{false_from_ne_true, and_from}
use Rattle.cg_cgroup.specs.Files.{all_files, enables, is_within, stands_under, controller_of, same_controller}
use Rattle.cg_cgroup.specs.declared.files.Controller.{Controller}
use Rattle.cg_cgroup.specs.declared.controllers.ControllerSet.{ControllerSet}
use Rattle.cg_cgroup.specs.declared.files.LimitFile.{LimitFile}
use Rattle.cg_cgroup.proofs.AllFiles.{each_passes}
use Rattle.cg_cgroup.proofs.ControllerLaws.{enables-set_by, same_controller-refl, same_controller-true, is_within-each, is_within-enables}
use Rattle.cg_format.proofs.TablesSay.{all_so}
use Rattle.cg_text.specs.Rows.{is_file_of, needs, needed_where}

none_of : {A : Type 0} (test : A → Bool) (xs : List A) → list_all (λ x. not (test x)) xs ≡ true → list_any test xs ≡ false
none_of test [] h = refl
none_of test (x ∷ xs) h = grind (arith, none_of test xs)

some_of : {A : Type 0} (test : A → Bool) (xs : List A) → list_any test xs ≡ false → list_all (λ x. not (test x)) xs ≡ true
some_of test [] h = refl
some_of test (x ∷ xs) h = grind (arith, some_of test xs)

module _ (named : LimitFile → Bool) (above : ControllerSet) where
  abbrev passes : LimitFile → Bool
  passes file = not (named file) || stands_under above file

  abbrev names_of : Controller → LimitFile → Bool
  names_of controller file = is_file_of controller file && named file

  -- a file of a controller that isn't enabled isn't named
  unnamed : (controller : Controller) → enables above controller ≡ false → (own : Option Controller) (is_named : Bool)
      → (not is_named || elim own [ None ↦ true | Some c ↦ enables above c ]) ≡ true
      → not (elim own [ None ↦ false | Some c ↦ same_controller c controller ] && is_named) ≡ true
  unnamed controller off None is_named h = refl
  unnamed controller off (Some own) false h =
      elim (same_controller own controller) as (λ b. not (b && false) ≡ true) [ true ↦ refl | false ↦ refl ]
  unnamed controller off (Some own) true h =
      elim (same_controller own controller) as (λ b. same_controller own controller ≡ b → not (b && true) ≡ true) [
        | true ↦ λ same. absurd (true≢false (sym h ∙ ap (enables above) (same_controller-true own controller same) ∙ off))
        | false ↦ λ _. refl
      ] refl

  all_are : list_all passes all_files ≡ true → is_within (needed_where named) above ≡ true
  unfolding needs
  all_are all =
      is_within-each (needed_where named) above (λ controller on.
      elim (enables above controller) as (λ b. enables above controller ≡ b → b ≡ true) [
        | true ↦ λ _. refl
        | false ↦ λ off.
            let none = none_of (names_of controller) all_files
            (all_so (λ file. not (names_of controller file))
            (λ file. unnamed controller off (controller_of file) (named file) (each_passes passes all file)) all_files) in
            absurd (true≢false (sym on ∙ enables-set_by (needs named) controller ∙ none))
      ] refl)

  -- a named file's controller is needed
  stands_of : is_within (needed_where named) above ≡ true → (file : LimitFile) (own : Option Controller) → controller_of file ≡ own
      → (is_named : Bool) → named file ≡ is_named
      → (not is_named || elim own [ None ↦ true | Some c ↦ enables above c ]) ≡ true
  unfolding needs
  stands_of within file own is false h = refl
  stands_of within file None is true h = refl
  stands_of within file (Some own) is true h =
      is_within-enables (needed_where named) above within own
      (enables-set_by (needs named) own
      ∙ (elim (list_any (names_of own) all_files) as (λ b. list_any (names_of own) all_files ≡ b → b ≡ true) [
        | true ↦ λ _. refl
        | false ↦ λ none.
            let failed = each_passes (λ f. not (names_of own f)) (some_of (names_of own) all_files none) file in
            let taken : names_of own file ≡ true =
            (λ i. elim (is i) [ None ↦ false | Some c ↦ same_controller c own ] && h i)
            ∙ and_from _ _ (same_controller-refl own) refl in
            absurd (true≢false (sym failed ∙ ap not taken))
      ] refl))

  each_is : is_within (needed_where named) above ≡ true → list_all passes all_files ≡ true
  each_is within = all_so passes (λ file. stands_of within file (controller_of file) refl (named file) refl) all_files

  pub all_within : list_all passes all_files ≡ is_within (needed_where named) above
  all_within =
      elim (list_all passes all_files) as (λ b. list_all passes all_files ≡ b → b ≡ is_within (needed_where named) above) [
        | true ↦ λ all. sym (all_are all)
        | false ↦ λ some. sym (false_from_ne_true (is_within (needed_where named) above)
            (λ within. true≢false (sym (each_is within) ∙ some)))
      ] refl
