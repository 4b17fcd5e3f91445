-- A JSON value on a line. Own.
use Rattle.std.specs.Prelude.{◌≡◌, ℕ, List, [], ◌∷◌, ◌++◌, Some}
use Rattle.serde_json.specs.Data.{Data}
use Rattle.serde_json.specs.Read.{read}
use Rattle.serde_json.specs.Written.{compact_text}

-- what is written of the value, and a newline
abbrev pub json_line : Data → List ℕ
json_line value = compact_text value ++ 10 ∷ []

-- A text is that, and what is written reads as the value.
abbrev pub IsLineOf : Data → List ℕ → Type 0
IsLineOf value text = (text ≡ json_line value) × (read (compact_text value) ≡ Some value)
