-- What a table says, seen through the reader's values.
use Rattle.std.proofs.Common.{◌≡◌, ◌&&◌, List, [], ◌∷◌, map, refl, ap}
use Rattle.std.specs.List.{list_all}
use Rattle.toml.specs.View.{view, items_view}
use Rattle.toml.specs.declared.value.Value.{Value}
use Rattle.cg_format.specs.Form.{is_text, elements}

pub elements_view : (values : List Value) → elements (items_view values) ≡ map view values
elements_view [] = refl
elements_view (value ∷ values) = ap (λ rest. view value ∷ rest) (elements_view values)

pub texts_view : (values : List Value) → list_all is_text (elements (items_view values)) ≡ list_all (λ value. is_text (view value)) values
texts_view [] = refl
texts_view (value ∷ values) = ap (λ b. is_text (view value) && b) (texts_view values)
