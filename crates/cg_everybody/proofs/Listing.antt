-- Tests and texts of elements that were turned.
use Rattle.std.proofs.Common.{◌≡◌, Bool, ◌||◌, List, [], ◌∷◌, map, refl, ap}
use Rattle.std.specs.List.{list_any}

pub any-map : {A B : Type 0} (test : B → Bool) (turn : A → B) (xs : List A) → list_any test (map turn xs) ≡ list_any (λ x. test (turn x)) xs
any-map test turn [] = refl
any-map test turn (x ∷ xs) = ap (λ b. test (turn x) || b) (any-map test turn xs)
