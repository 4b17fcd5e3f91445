-- How it is read and written: nobody has to believe it.
-- What stands at the place of a key in a TOML text. Own.
use Rattle.std.specs.Prelude.{ℕ, ◌-◌, ◌≤◌, Bool, true, false, List, cond, nat_eq, length, drop, slice_index, slice_get, ◌≡◌}
use Rattle.std.specs.Option.{option_map_or}
use Rattle.std.specs.Str.{bytes_eq}
use Rattle.toml_parser.specs.Lexical.{skip_ws}
use Rattle.toml_parser.specs.Strings.{key}
use Rattle.text_places.specs.declared.scan.Step.{Step}
use Rattle.text_places.specs.declared.scan.Step.TheVariants.{Key, Element}

-- what stands behind the bracket, or the two, that begin a table's header
abbrev pub behind_brackets : List ℕ → List ℕ
behind_brackets text =
    cond (nat_eq (slice_index text 0) 91) (cond (nat_eq (slice_index text 1) 91) (skip_ws (drop 2 text)) (skip_ws (drop 1 text))) text

-- whether a key stands at a text's front whose last part has this name
abbrev pub begins_with_key : List ℕ → List ℕ → Bool
begins_with_key text name = option_map_or (λ read. bytes_eq read.0.1 name) (key text) false

-- whether the key, or the table's header, stands at a text's front that a step names; an element has no name
abbrev pub stands_at : List ℕ → Step → Bool
stands_at text (Key name) = begins_with_key (behind_brackets text) name.now
stands_at text (Element index) = true

-- a place of what the last of some steps names
abbrev pub IsPlaceOf : List ℕ → List Step → ℕ → Type 0
IsPlaceOf text steps offset =
    (offset ≤ length text) × (option_map_or (stands_at (drop offset text)) (slice_get steps (length steps - 1)) false ≡ true)
