-- Lists of clauses: what an operation fails, in order. A clause is asked only where what it speaks of is there.
use Rattle.std.specs.Prelude.{Bool, true, false, List, [], ◌∷◌, Option, Some, None}

-- what is so unless the test passes
abbrev pub unless : {R : Type 0} → Bool → R → List R
unless true r = []
unless false r = r ∷ []

-- what is so where a thing is absent
abbrev pub absent : {A R : Type 0} → Option A → R → List R
absent None r = r ∷ []
absent (Some x) r = []

-- the clauses on a thing, where it is present
abbrev pub present : {A R : Type 0} → Option A → (A → List R) → List R
present None clauses = []
present (Some x) clauses = clauses x

abbrev pub first : {R : Type 0} → List R → Option R
first [] = None
first (r ∷ rs) = Some r
