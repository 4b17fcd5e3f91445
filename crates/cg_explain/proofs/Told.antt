-- What is written of those of a list that pass a test, one after another.
use Rattle.std.proofs.Common.{◌≡◌, ℕ, ◌+◌, ◌<◌, ◌≤◌, Bool, true, false, cond, List, [], ◌∷◌, ◌++◌, length, take, get_or, map, refl, sym, ap, ◌∙◌, append_assoc}
use Rattle.std.specs.List.{filter}
use Rattle.std.proofs.lemmas.List.{take_more, take_all, map-append}
use Rattle.std.proofs.lemmas.List.Elements.{filter-append}

module _ {A B : Type 0} (passes : A → Bool) (write : A → B) where
  abbrev pub written : List A → List B
  written xs = map write (filter passes xs)

  -- of one
  abbrev pub one_written : A → List B
  one_written x = cond (passes x) (write x ∷ []) []

  written-one : (x : A) → written (x ∷ []) ≡ one_written x
  written-one x =
      elim (passes x) as (λ b. map write (cond b (x ∷ []) []) ≡ cond b (write x ∷ []) []) [
        | true ↦ refl
        | false ↦ refl
      ]

  pub written_more : (xs : List A) (i : ℕ) (d : A) → i < length xs → (before had now : List B) → had ≡ before ++ written (take i xs)
      → now ≡ had ++ one_written (get_or xs i d) → now ≡ before ++ written (take (i + 1) xs)
  written_more xs i d within before had now is more =
      more ∙ ap (λ l. l ++ one_written (get_or xs i d)) is
      ∙ append_assoc before (written (take i xs)) (one_written (get_or xs i d))
      ∙ ap (λ l. before ++ l)
      (ap (λ l. written (take i xs) ++ l) (sym (written-one (get_or xs i d)))
      ∙ sym (map-append write (filter passes (take i xs)) (filter passes (get_or xs i d ∷ [])))
      ∙ ap (map write) (sym (filter-append passes (take i xs) (get_or xs i d ∷ [])))
      ∙ ap written (sym (take_more xs i d within)))

  pub written_whole : (xs : List A) (i : ℕ) → length xs ≤ i → (before now : List B) → now ≡ before ++ written (take i xs)
      → now ≡ before ++ written xs
  written_whole xs i all before now is = is ∙ ap (λ l. before ++ written l) (take_all i xs all)
