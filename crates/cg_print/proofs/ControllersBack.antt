-- The names of a set's controllers are read as that set.
use Rattle.std.proofs.Common.{◌≡◌, Bool, true, false, ◌&&◌, ◌||◌, cond, filter, List, [], ◌∷◌, map as map_list, Some, option_and_then, refl, sym, ap, ◌∙◌}
use Rattle.std.specs.List.{list_any}
use Rattle.cg_cgroup.specs.Files.{all_controllers, controller_name, same_controller, is_known, is_of, enables, with_controller, no_controllers}
use Rattle.cg_cgroup.specs.declared.files.Controller.{Controller}
use Rattle.cg_cgroup.specs.declared.files.Vocabulary.{Vocabulary}
use Rattle.cg_cgroup.specs.declared.controllers.ControllerSet.{ControllerSet}
use Rattle.cg_cgroup.proofs.NameLaws.{controller_names}
use Rattle.cg_cgroup.proofs.ControllerLaws.{same_controller-true, each_controller, same_set, enables-set_by, enables-with_controller, enables-known}
use Rattle.cg_format.specs.Said.{controllers_from, controllers_read}
use Rattle.cg_print.specs.Documents.{names_in}

abbrev added : ControllerSet → List Controller → ControllerSet
added set [] = set
added set (controller ∷ controllers) = added (with_controller set controller true) controllers

names_read : (set : ControllerSet) (controllers : List Controller)
    → controllers_from set (map_list controller_name controllers) ≡ Some (added set controllers)
names_read set [] = refl
names_read set (controller ∷ controllers) =
    ap (option_and_then (λ found. controllers_from (with_controller set found true) (map_list controller_name controllers)))
    (controller_names.found controller)
    ∙ names_read (with_controller set controller true) controllers

joined : (any same base : Bool) → (any || cond same true base) ≡ ((same || any) || base)
joined any true base = or_true any
  where
    or_true : (b : Bool) → (b || true) ≡ true
    or_true true = refl
    or_true false = refl
joined any false base = refl

enables-added : (set : ControllerSet) (controllers : List Controller) (other : Controller)
    → enables (added set controllers) other ≡ (list_any (λ controller. same_controller controller other) controllers || enables set other)
enables-added set [] other = refl
enables-added set (controller ∷ controllers) other =
    enables-added (with_controller set controller true) controllers other
    ∙ ap (λ on. list_any (λ one. same_controller one other) controllers || on) (enables-with_controller set controller true other)
    ∙ joined (list_any (λ one. same_controller one other) controllers) (same_controller controller other) (enables set other)

among_filtered : (test : Controller → Bool) (controllers : List Controller) (other : Controller)
    → list_any (λ controller. same_controller controller other) (filter test controllers)
    ≡ (test other && list_any (λ controller. same_controller controller other) controllers)
among_filtered test [] other = and_none (test other)
  where
    and_none : (b : Bool) → false ≡ (b && false)
    and_none true = refl
    and_none false = refl
among_filtered test (controller ∷ controllers) other =
    one (test controller) (same_controller controller other)
    (λ same. ap test (same_controller-true controller other same))
    ∙ ap (λ rest. cond (test controller) (same_controller controller other || rest) rest) (among_filtered test controllers other)
    ∙ both (test controller) (same_controller controller other) (test other)
    (list_any (λ one. same_controller one other) controllers) (λ same. ap test (same_controller-true controller other same))
  where
    one : (on same : Bool) → (same ≡ true → test controller ≡ test other)
        → list_any (λ one. same_controller one other) (cond on (controller ∷ filter test controllers) (filter test controllers))
        ≡ cond on (same_controller controller other || list_any (λ one. same_controller one other) (filter test controllers))
        (list_any (λ one. same_controller one other) (filter test controllers))
    one true same h = refl
    one false same h = refl

    both : (on same there any : Bool) → (same ≡ true → on ≡ there)
        → cond on (same || (there && any)) (there && any) ≡ (there && (same || any))
    both true true there any h = ap (λ b. b && true) (h refl)
    both true false there any h = refl
    both false true there any h = ap (λ b. b && any) (sym (h refl)) ∙ ap (λ b. b && true) (h refl)
    both false false there any h = refl

listed : (controller : Controller) → list_any (λ one. same_controller one controller) all_controllers ≡ true
listed controller = each_controller (λ controller. list_any (λ one. same_controller one controller) all_controllers) refl controller

and_listed : (known on there : Bool) → (on ≡ true → known ≡ true) → there ≡ true → (((known && on) && there) || false) ≡ on
and_listed known true there h is = (λ i. ((h refl i && true) && is i) || false)
and_listed true false there h is = refl
and_listed false false there h is = refl

pub set_again : (vocabulary : Vocabulary) (set : ControllerSet) → is_of vocabulary set ≡ true
    → controllers_read (names_in vocabulary set) ≡ Some set
set_again vocabulary set known =
    let test : Controller → Bool = λ controller. is_known vocabulary controller && enables set controller in
    names_read no_controllers (filter test all_controllers)
    ∙ ap Some (same_set (added no_controllers (filter test all_controllers)) set (λ other.
    enables-added no_controllers (filter test all_controllers) other
    ∙ (λ i. among_filtered test all_controllers other i || enables-set_by (λ controller. false) other i)
    ∙ and_listed (is_known vocabulary other) (enables set other) (list_any (λ one. same_controller one other) all_controllers)
    (enables-known vocabulary set known other) (listed other)))
