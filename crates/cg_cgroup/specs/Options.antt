-- Steps of which each may find nothing.
use Rattle.std.specs.Prelude.{Option, option_and_then}

-- what is found of a thing that is found
infixl 10 ◌>>=◌
abbrev pub ◌>>=◌ : {A B : Type 0} → Option A → (A → Option B) → Option B
o >>= f = option_and_then f o
