-- A list of values that grows by one with each of some things.
use Rattle.std.proofs.Common.{◌≡◌, ℕ, ◌+◌, List, [], ◌∷◌, ◌++◌, map, take, refl, ap, sym, ◌∙◌, append_assoc}
use Rattle.cg_advice.proofs.Gathering.{map-append}

pub pushed : {A B C : Type 0} (f : A → C) (g : B → C) (before : List C) (xs news : List A) (x : A) (ys : List B) (y : B) (i : ℕ)
    → news ≡ xs ++ (x ∷ []) → map f xs ≡ before ++ map g (take i ys) → f x ≡ g y
    → map g (take (i + 1) ys) ≡ map g (take i ys) ++ (g y ∷ []) → map f news ≡ before ++ map g (take (i + 1) ys)
pushed f g before xs news x ys y i grown so_far same more =
    ap (map f) grown ∙ map-append f xs (x ∷ []) ∙ ap (λ l. l ++ (f x ∷ [])) so_far ∙ append_assoc before (map g (take i ys)) (f x ∷ [])
    ∙ ap (λ v. before ++ (map g (take i ys) ++ (v ∷ []))) same ∙ ap (λ l. before ++ l) (sym more)

pub mapped_twice : {A B C : Type 0} (f : B → C) (g : A → B) (xs : List A) → map (λ x. f (g x)) xs ≡ map f (map g xs)
mapped_twice f g [] = refl
mapped_twice f g (x ∷ xs) = ap (λ l. f (g x) ∷ l) (mapped_twice f g xs)
