-- How many elements of a list pass a test.
use Rattle.std.proofs.Common.{◌≡◌, ℕ, ◌+◌, Bool, true, false, cond, ◌||◌, nat_lt, List, [], ◌∷◌, count_by, refl, sym, ap, ◌∙◌, true≢false, arith}
use Rattle.std.specs.List.{list_any}
use Rattle.std.proofs.lemmas.Bool.{lt-ltb}
use Rattle.std.proofs.lemmas.List.Recursion.{is_count_by}
use Rattle.cg_model.proofs.MapFolds.{gathered}
use Rattle.cg_model.proofs.StateCounts.{one_more}

module _ {A : Type 0} (p : A → Bool) where
  counted : List A → ℕ
  counted xs = gathered (one_more p) 0 xs

  pub gathered-count : (xs : List A) → gathered (one_more p) 0 xs ≡ count_by p xs
  unfolding counted
  gathered-count xs = is_count_by counted p refl (λ x xs. refl) xs

  any_counted : (xs : List A) → list_any p xs ≡ nat_lt 0 (gathered (one_more p) 0 xs)
  any_counted [] = refl
  any_counted (x ∷ xs) =
      elim (p x) as (λ b. (b || list_any p xs) ≡ nat_lt 0 (cond b (1 + gathered (one_more p) 0 xs) (gathered (one_more p) 0 xs))) [
        | true ↦ sym (lt-ltb 0 (1 + gathered (one_more p) 0 xs) (omega arith))
        | false ↦ any_counted xs
      ]

  -- some element passes exactly where the count isn't 0
  pub any-count : (xs : List A) → list_any p xs ≡ nat_lt 0 (count_by p xs)
  any-count xs = any_counted xs ∙ ap (nat_lt 0) (gathered-count xs)

  none_counted : (xs : List A) → list_any p xs ≡ false → gathered (one_more p) 0 xs ≡ 0
  none_counted [] h = refl
  none_counted (x ∷ xs) h =
      elim (p x) as (λ b. (b || list_any p xs) ≡ false → cond b (1 + gathered (one_more p) 0 xs) (gathered (one_more p) 0 xs) ≡ 0)
      [ true ↦ λ e. absurd (true≢false e) | false ↦ λ e. none_counted xs e ] h

  pub count-none : (xs : List A) → list_any p xs ≡ false → count_by p xs ≡ 0
  count-none xs h = sym (gathered-count xs) ∙ none_counted xs h
