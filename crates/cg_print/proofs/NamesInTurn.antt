-- The names of a vocabulary's controllers that a set has, one by one.
use Rattle.std.proofs.Common.{◌≡◌, ℕ, ◌+◌, ◌<◌, ◌≤◌, Bool, true, false, ◌&&◌, cond, filter, List, [], ◌∷◌, ◌++◌, length, get_or, take, map as map_list, sym, ap, ◌∙◌}
use Rattle.std.proofs.lemmas.List.{take_all, map-append}
use Rattle.std.proofs.lemmas.List.Elements.{filter_more}
use Rattle.toml.specs.Data.{Data, array, string}
use Rattle.toml.specs.View.{view, items_of}
use Rattle.toml.specs.declared.value.Value.{Value}
use Rattle.cg_cgroup.specs.Files.{all_controllers, controller_name, is_known, enables}
use Rattle.cg_cgroup.specs.declared.files.Controller.{Controller}
use Rattle.cg_cgroup.specs.declared.files.Vocabulary.{Vocabulary}
use Rattle.cg_cgroup.specs.declared.controllers.ControllerSet.{ControllerSet}
use Rattle.cg_print.specs.Documents.{names_in, texts_array}

abbrev pub name_value : Controller → Data
name_value controller = string (controller_name controller)

module _ (vocabulary : Vocabulary) (set : ControllerSet) where
  abbrev has_name : Controller → Bool
  has_name controller = is_known vocabulary controller && enables set controller

  -- the names of the first i controllers were written
  abbrev pub AreNames : ℕ → List Value → Type 0
  AreNames i values = map_list view values ≡ map_list name_value (filter has_name (take i all_controllers))

  module _ (i : ℕ) (d : Controller) (values : List Value) (inside : i < length all_controllers) (are : AreNames i values) where
    abbrev next : Controller
    next = get_or all_controllers i d

    grown : map_list name_value (filter has_name (take (i + 1) all_controllers))
        ≡ map_list name_value (filter has_name (take i all_controllers)) ++ map_list name_value (cond (has_name next) (next ∷ []) [])
    grown =
        ap (map_list name_value) (filter_more has_name all_controllers i d inside)
        ∙ map-append name_value (filter has_name (take i all_controllers)) (cond (has_name next) (next ∷ []) [])

    pub one_named : (value : Value) → has_name next ≡ true → view value ≡ name_value next → AreNames (i + 1) (values ++ value ∷ [])
    one_named value has is =
        map-append view values (value ∷ []) ∙ (λ k. are k ++ is k ∷ [])
        ∙ (λ k. map_list name_value (filter has_name (take i all_controllers)) ++ map_list name_value (cond (sym has k) (next ∷ []) []))
        ∙ sym grown

    pub one_unnamed : has_name next ≡ false → AreNames (i + 1) values
    one_unnamed has =
        are ∙ none _ ∙ (λ k. map_list name_value (filter has_name (take i all_controllers)) ++ map_list name_value (cond (sym has k)
        (next ∷ []) []))
        ∙ sym grown
      where
        none : (ds : List Data) → ds ≡ ds ++ []
        none [] = λ k. []
        none (d ∷ ds) = λ k. d ∷ none ds k

  pub all_named : (i : ℕ) (values : List Value) → length all_controllers ≤ i → AreNames i values
      → array (items_of (map_list view values)) ≡ texts_array (names_in vocabulary set)
  all_named i values ended are =
      ap (λ ds. array (items_of ds)) (are ∙ ap (λ some. map_list name_value (filter has_name some)) (take_all i all_controllers ended)
      ∙ twice (filter has_name all_controllers))
    where
      twice : (some : List Controller) → map_list name_value some ≡ map_list string (map_list controller_name some)
      twice [] = λ k. []
      twice (one ∷ some) = λ k. name_value one ∷ twice some k
