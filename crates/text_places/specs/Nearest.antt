-- How far a name is from what was written. Own.
use Rattle.std.specs.Prelude.{◌≡◌, ℕ, ◌+◌, ◌/◌, ◌<◌, ◌≤◌, Bool, List, cond, nat_le, ◌&&◌, length, min, string_bytes, Option, Some, None, All, Contains}
use Rattle.std.specs.Option.{option_map}
use Rattle.std.specs.Str.{chars}
use Rattle.strsim.specs.Edits.{osa_table}
use Rattle.text_places.specs.declared.near.Missing.{Missing}

-- whether a name may be near by its length in bytes; what is longer than 128 bytes is near nothing
abbrev pub is_comparable : List ℕ → List ℕ → Bool
is_comparable written name = nat_le (length written) 128 && nat_le (length written) (length name + 2) && nat_le (length name) (length written + 2)

-- how many letters are changed, added, left out or exchanged with the next; 3 where the lengths alone say that it is far
abbrev pub distance : List ℕ → List ℕ → ℕ
distance written name = cond (is_comparable written name) ((osa_table (chars written) (chars name)).last_row (length (chars name))) 3

-- how many letters may be wrong of what was written: none of two, one of three to six, two of seven or more
abbrev pub farthest : List ℕ → ℕ
farthest written = min 2 ((length written + 1) / 4)

-- The nearest of some names, or none where all are too far.
abbrev pub IsNearest : List ℕ → List (List ℕ) → Option (List ℕ) → Type 0
IsNearest written names None = All (λ other. farthest written < distance written other) names
IsNearest written names (Some near) =
    Contains names near × (distance written near ≤ farthest written) × All (λ other. distance written near ≤ distance written other) names

-- a name, and the nearest of some names
abbrev pub IsMissing : List ℕ → List (List ℕ) → Missing → Type 0
IsMissing name names missing = (string_bytes missing.name ≡ name) × IsNearest name names (option_map string_bytes missing.nearest)
