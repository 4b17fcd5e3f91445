-- A list that is read place by place is that list.
use Rattle.std.proofs.Common.{◌≡◌, ℕ, refl, ap, ◌∙◌, List, [], ◌∷◌, length, map, get_or, zero, suc}

-- the numbers below another
abbrev pub numbers : ℕ → List ℕ
numbers zero = []
numbers (suc count) = 0 ∷ map suc (numbers count)

later : {A : Type 0} (f : ℕ → A) (places : List ℕ) → map f (map suc places) ≡ map (λ place. f (suc place)) places
later f [] = refl
later f (place ∷ places) = ap (λ rest. f (suc place) ∷ rest) (later f places)

pub held_all : {A : Type 0} (held : List A) (none : A) → map (λ place. get_or held place none) (numbers (length held)) ≡ held
held_all [] none = refl
held_all (one ∷ held) none =
    ap (λ rest. one ∷ rest) (later (λ place. get_or (one ∷ held) place none) (numbers (length held)) ∙ held_all held none)
