-- What the `map` of an array gives, where its closure changes nothing that it holds: the list of a function's values.
use Rattle.std.proofs.Common.{◌≡◌, ℕ, ◌+◌, ◌<◌, ◌≤◌, zero, suc, true, false, List, length, map, get_or, nat_eq, refl, sym, ap, subst, ◌∙◌, arith, eqb-true}
use Rattle.std.proofs.Math.ListN.{get_or-map}
use Rattle.std.proofs.lemmas.List.{ext_get_or, length-map}
use Rattle.std.specs.Array.{MapsFrom, IsMapOf}
use denote.Param.Members.{Mut, Called}

past : (i k : ℕ) → i ≤ k → nat_eq i k ≡ false → i + 1 ≤ k
past i k low other = grind arith

module _ {F A B : Type 0} (g : Mut F (A × Unit {0}) B) (start : F) (value : A → B)
    (one_call : (x : A) (y : B) (left : F) → Called g start (x, tt) y left → (y ≡ value x) × (left ≡ start)) where
  each_mapped : (xs : List A) (ys : List B) (d : A) (e : B) (n i k : ℕ) → MapsFrom g start xs ys i n → i ≤ k → k < i + n
      → get_or ys k e ≡ value (get_or xs k d)
  each_mapped xs ys d e zero i k m low high = absurd (omega (arith, low, high))
  each_mapped xs ys d e (suc n) i k m low high =
      let one = one_call m.1 m.2 m.0 m.5 in
      elim (nat_eq i k) as (λ b. nat_eq i k ≡ b → get_or ys k e ≡ value (get_or xs k d)) [
        | true ↦ λ same.
            subst (λ k. get_or ys k e ≡ value (get_or xs k d)) (eqb-true i k same) (m.4.1 e ∙ one.0 ∙ sym (ap value (m.3.1 d)))
        | false ↦ λ other.
            each_mapped xs ys d e n (i + 1) k (subst (λ f. MapsFrom g f xs ys (i + 1) n) one.1 m.6) (past i k low other)
            (omega (arith, high))
      ] refl

pub mapped : {F A B : Type 0} {g : Mut F (A × Unit {0}) B} {start : F} (xs : List A) (ys : List B) → IsMapOf g start xs ys (length xs)
    → (value : A → B) → ((x : A) (y : B) (left : F) → Called g start (x, tt) y left → (y ≡ value x) × (left ≡ start)) → (d : A)
    → ys ≡ map value xs
mapped {g = g} {start = start} xs ys m value one_call d =
    ext_get_or (value d) ys (map value xs) (m.long ∙ sym (length-map xs value)) (λ k within.
    each_mapped g start value one_call xs ys d (value d) (length xs) 0 k m.each (omega arith) (omega (arith, within, m.long))
    ∙ sym (get_or-map value xs k d))
