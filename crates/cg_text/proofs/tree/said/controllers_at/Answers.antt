use Rattle.std.proofs.Common.{◌≡◌, ℕ, ◌+◌, ◌<◌, true, List, length, drop, get_or, map, filter_map, Option, Some, None, option_and_then, sym, ap, ◌∙◌}
use Rattle.std.specs.Option.{option_copied}
use Rattle.toml.specs.Data.{as_str}
use Rattle.toml.specs.View.{view}
use Rattle.toml.specs.declared.value.Value.{Value}
use Rattle.cg_cgroup.specs.Files.{controller_named, with_controller}
use Rattle.cg_cgroup.specs.declared.files.Controller.{Controller}
use Rattle.cg_cgroup.specs.declared.controllers.ControllerSet.{ControllerSet}
use Rattle.cg_format.specs.Said.{controllers_from}
use Rattle.cg_text.proofs.LinesLaws.{texts_from}
use Rattle.cg_text.proofs.tree.said.controllers_at.Goals.{in-Some+in_ok-from_name, in_default}
use Rattle.cg_text.proofs.tree.said.controllers_at.Goals as goal

module _ (elements : List Value) (i : ℕ) (item : Value) (within : i < length elements) (is : item ≡ get_or elements i item)
    (set : ControllerSet) (said : Option ControllerSet)
    (had : controllers_from set (filter_map as_str (map view (drop i elements))) ≡ said) (new : ControllerSet) where
  abbrev left : List (List ℕ)
  left = filter_map as_str (map view (drop (i + 1) elements))

  skipped : new ≡ set → as_str (view item) ≡ None → controllers_from new left ≡ said
  skipped same so =
      ap (λ set. controllers_from set left) same
      ∙ (ap (controllers_from set) (sym (texts_from elements i item within is None so)) ∙ had)

  taken : (controller : Controller) (text : List ℕ) → new ≡ with_controller set controller true → controller_named text ≡ Some controller
      → as_str (view item) ≡ Some text → controllers_from new left ≡ said
  taken controller text more named so =
      ap (λ set. controllers_from set left) more
      ∙ (sym (ap (option_and_then (λ found. controllers_from (with_controller set found true) left)) named)
      ∙ (ap (controllers_from set) (sym (texts_from elements i item within is (Some text) so)) ∙ had))

pub loop-element-preserved : goal.loop-element-preserved
loop-element-preserved c =
    let elements = c.elements_at-elements.result.now in
    let at = c.loop-element.element-index in
    let is_text = sym c.as_str.ensures in
    elim c.match-as_str.branch [
      | in-Some+in_ok-from_name w ↦
          taken elements at c.element-item.result c.loop-element-test.true c.element-item.is c.loop-element.controllers _
          c.loop-element.invariant c.match-as_str.controllers _ w.in-Some.text.now (w.controllers-is ∙ w.with-controllers.ensures)
          (sym w.in_ok-from_name.ensures.found) (is_text ∙ ap option_copied w.in-Some.is)
      | in_default w ↦
          skipped elements at c.element-item.result c.loop-element-test.true c.element-item.is c.loop-element.controllers _
          c.loop-element.invariant c.match-as_str.controllers w.controllers-is (is_text ∙ ap option_copied w.in_default.is)
    ]
