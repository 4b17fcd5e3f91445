-- JSON objects, member by member, and lists. Own.
use Rattle.std.specs.Prelude.{ℕ, List, map}
use Rattle.serde_json.specs.Data.{Data, string, number, array, unsigned, Members, put}
use Rattle.serde_json.specs.View.{items_of}

-- one more member, which is a text
abbrev pub put_text : List ℕ → List ℕ → Members → Members
put_text name text members = put name (string text) members

-- one more member, which is a number
abbrev pub put_number : List ℕ → ℕ → Members → Members
put_number name value members = put name (number (unsigned value)) members

-- a list with a value for each of some things
abbrev pub each_value : {A : Type 0} → (A → Data) → List A → Data
each_value value things = array (items_of (map value things))

abbrev pub numbers_value : List ℕ → Data
numbers_value numbers = each_value (λ (each : ℕ). number (unsigned each)) numbers
