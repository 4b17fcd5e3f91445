-- What is told of a fault, seen through the reader's values.
use Rattle.std.proofs.Common.{◌≡◌, ℕ, List, map, Option, Some, None, option_map, sym, ap, ◌∙◌}
use Rattle.std.specs.Prelude.{slice_get}
use Rattle.std.specs.Option.{option_copied}
use Rattle.std.specs.Borrow.{Bor}
use Rattle.std.proofs.lemmas.Option.{slice_get-map}
use Rattle.toml.specs.View.{view}
use Rattle.toml.specs.declared.value.Value.{Value}

pub seen_at : (found : Option (Bor Value)) (values : List Value) (index : ℕ) → option_copied found ≡ slice_get values index
    → option_map (λ held. view held.now) found ≡ slice_get (map view values) index
seen_at None values index is = ap (option_map view) is ∙ sym (slice_get-map view values index)
seen_at (Some held) values index is = ap (option_map view) is ∙ sym (slice_get-map view values index)
