-- Lists of clauses: the first of several, and what an empty one says.
use Rattle.std.proofs.Common.{◌≡◌, Bool, true, false, List, [], ◌∷◌, ◌++◌, Option, Some, None, is_some, refl}
use Rattle.std.specs.List.{flat_map, AllByRecursion}
use Rattle.cg_model.specs.Clauses.{unless, absent, present, first}

pub first_none : {R : Type 0} (xs ys : List R) → first xs ≡ None → first (xs ++ ys) ≡ first ys
first_none [] ys h = refl
first_none (x ∷ xs) ys h = cc

pub first_some : {R : Type 0} (xs ys : List R) (r : R) → first xs ≡ Some r → first (xs ++ ys) ≡ Some r
first_some [] ys r h = cc
first_some (x ∷ xs) ys r h = h

pub none_of_first : {R : Type 0} (xs : List R) → first xs ≡ None → xs ≡ []
none_of_first [] h = refl
none_of_first (x ∷ xs) h = cc

-- ---- an empty list of clauses

pub no_parts : {R : Type 0} (xs ys : List R) → xs ++ ys ≡ [] → (xs ≡ []) × (ys ≡ [])
no_parts [] ys h = (refl, h)
no_parts (x ∷ xs) ys h = cc

pub no_unless : {R : Type 0} (test : Bool) (r : R) → unless test r ≡ [] → test ≡ true
no_unless true r h = refl
no_unless false r h = cc

pub no_absent : {A R : Type 0} (found : Option A) (r : R) → absent found r ≡ [] → is_some found ≡ true
no_absent None r h = cc
no_absent (Some x) r h = refl

pub no_present : {A R : Type 0} (found : Option A) (clauses : A → List R) → present found clauses ≡ [] → (x : A) → found ≡ Some x
    → clauses x ≡ []
no_present None clauses h x is = cc
no_present (Some y) clauses h x is = cc

pub none_present : {A R : Type 0} (found : Option A) (r : R) → present found (λ x. r ∷ []) ≡ [] → found ≡ None
none_present None r h = refl
none_present (Some y) r h = cc

-- ---- the clauses of each element of a list

pub none_each : {A R : Type 0} (f : A → List R) (xs : List A) → flat_map f xs ≡ [] → AllByRecursion (λ x. f x ≡ []) xs
none_each f [] h = tt
none_each f (x ∷ xs) h = let parts = no_parts (f x) (flat_map f xs) h in (parts.0, none_each f xs parts.1)

pub each_none : {A R : Type 0} (f : A → List R) (xs : List A) → AllByRecursion (λ x. f x ≡ []) xs → flat_map f xs ≡ []
each_none f [] h = refl
each_none f (x ∷ xs) h = λ i. h.0 i ++ each_none f xs h.1 i
