-- Lists cut at an element, and what a filter keeps of one.
use Rattle.std.proofs.Common.{◌≡◌, ℕ, ◌<◌, zero, suc, Bool, true, false, cond, ◌||◌, ◌⊎◌, inl, inr, ⊎_elim, List, [], ◌∷◌, ◌++◌, length, get_or, reverse, find, filter, Option, Some, None, is_some, refl, sym, ap, ◌∙◌, true≢false, append-nil, length-append, arith}
use Rattle.std.specs.Option.{option_to_list}
use Rattle.std.specs.Prelude.{count_by}
use Rattle.std.specs.List.{list_any}
use Rattle.std.proofs.lemmas.List.Sums.{length-filter}
use Rattle.std.proofs.lemmas.List.{reverse-append}
use Rattle.std.proofs.lemmas.List.Elements.{filter-append}

-- ---- cuts

-- a list with an element has a length
pub not_empty : {A : Type 0} (front : List A) (x : A) (back : List A) → front ++ x ∷ back ≡ [] → ⊥
not_empty front x back is = absurd (omega (arith, length-append front (x ∷ back), ap length is))

-- a list with one more element is cut at that one, or before it
pub cut_last : {A : Type 0} (front : List A) (x : A) (back all : List A) (y : A) → front ++ x ∷ back ≡ all ++ y ∷ []
    → ((rest : List A) × (front ++ x ∷ rest ≡ all)) ⊎ ((front ≡ all) × (x ≡ y))
cut_last [] x back [] y is = inr (refl, cc)
cut_last [] x back (z ∷ all) y is =
    let same : x ≡ z = cc in
    inl (all, ap (λ head. head ∷ all) same)
cut_last (z ∷ front) x back [] y is =
    let none : front ++ x ∷ back ≡ [] = cc in
    absurd (not_empty front x back none)
cut_last (z ∷ front) x back (w ∷ all) y is =
    let same : z ≡ w = cc in
    let rest : front ++ x ∷ back ≡ all ++ y ∷ [] = cc in
    ⊎_elim
    (λ cut. inl (cut.0, λ i. same i ∷ cut.1 i))
    (λ last. inr ((λ i. same i ∷ last.0 i), last.1))
    (cut_last front x back all y rest)

-- ---- filters

abbrev pub head_of : {A : Type 0} → List A → Option A
head_of [] = None
head_of (x ∷ xs) = Some x

module _ {A : Type 0} (p : A → Bool) where
  pub find_filter : (xs : List A) → find p xs ≡ head_of (filter p xs)
  find_filter [] = refl
  find_filter (x ∷ xs) =
      elim (p x) as (λ b. cond b (Some x) (find p xs) ≡ head_of (cond b (x ∷ filter p xs) (filter p xs))) [
        | true ↦ refl
        | false ↦ find_filter xs
      ]

  pub is_some-find : (xs : List A) → is_some (find p xs) ≡ list_any p xs
  is_some-find [] = refl
  is_some-find (x ∷ xs) =
      elim (p x) as (λ b. is_some (cond b (Some x) (find p xs)) ≡ (b || list_any p xs)) [ true ↦ refl | false ↦ is_some-find xs ]

  pub any_filter : (xs : List A) → list_any p xs ≡ is_some (head_of (filter p xs))
  any_filter xs = sym (is_some-find xs) ∙ ap is_some (find_filter xs)

  -- what comes once is there, and what comes never isn't
  pub any_counted : (xs : List A) (b : Bool) → count_by p xs ≡ cond b 1 0 → list_any p xs ≡ b
  any_counted xs b is = any_filter xs ∙ of_length (filter p xs) b (length-filter p xs ∙ is)
    where
      of_length : (some : List A) (b : Bool) → length some ≡ cond b 1 0 → is_some (head_of some) ≡ b
      of_length some b is = grind arith

  pub filter_reverse : (xs : List A) → filter p (reverse xs) ≡ reverse (filter p xs)
  filter_reverse [] = refl
  filter_reverse (x ∷ xs) =
      ap (filter p) (reverse-append (x ∷ []) xs)
      ∙ filter-append p (reverse xs) (x ∷ [])
      ∙ ap (λ some. some ++ filter p (x ∷ [])) (filter_reverse xs)
      ∙ elim (p x) as (λ b. reverse (filter p xs) ++ cond b (x ∷ []) [] ≡ reverse (cond b (x ∷ filter p xs) (filter p xs))) [
        | true ↦ sym (reverse-append (x ∷ []) (filter p xs))
        | false ↦ append-nil (reverse (filter p xs))
      ]

  pub filter_none : (xs : List A) → ((i : ℕ) (d : A) → i < length xs → p (get_or xs i d) ≡ false) → filter p xs ≡ []
  filter_none [] each = refl
  filter_none (x ∷ xs) each =
      ap (λ b. cond b (x ∷ filter p xs) (filter p xs)) (each zero x (omega arith))
      ∙ filter_none xs (λ i d inside. each (suc i) d (omega arith))

  pub filter_cut : (front : List A) (y : A) (back : List A) → p y ≡ true
      → filter p (front ++ y ∷ back) ≡ filter p front ++ y ∷ filter p back
  filter_cut front y back passes =
      filter-append p front (y ∷ back) ∙ ap (λ b. filter p front ++ cond b (y ∷ filter p back) (filter p back)) passes

  -- a cut of a list at an element that passes, behind a front of which the filter keeps this
  abbrev pub CutKept : List A → List A → A → Type 0
  CutKept xs front y = (before : List A) × (after : List A) × (before ++ y ∷ after ≡ xs) × (filter p before ≡ front) × (p y ≡ true)

  kept_here : (x : A) (xs front : List A) (y : A) (back : List A) → p x ≡ true → x ∷ filter p xs ≡ front ++ y ∷ back
      → ((rest : List A) → filter p xs ≡ rest ++ y ∷ back → CutKept xs rest y) → CutKept (x ∷ xs) front y
  kept_here x xs [] y back passes is later =
      let same : x ≡ y = cc in
      ([], xs, ap (λ z. z ∷ xs) (sym same), refl, ap p (sym same) ∙ passes)
  kept_here x xs (z ∷ front) y back passes is later =
      let same : x ≡ z = cc in
      let rest : filter p xs ≡ front ++ y ∷ back = cc in
      let cut : CutKept xs front y = later front rest in
      let kept : filter p (x ∷ cut.0) ≡ z ∷ front =
      ap (λ b. cond b (x ∷ filter p cut.0) (filter p cut.0)) passes ∙ (λ i. same i ∷ cut.3 i) in
      (x ∷ cut.0, cut.1, ap (λ some. x ∷ some) cut.2, kept, cut.4)

  kept_later : (x : A) (xs front : List A) (y : A) → p x ≡ false → CutKept xs front y → CutKept (x ∷ xs) front y
  kept_later x xs front y fails cut =
      (x ∷ cut.0, cut.1, ap (λ some. x ∷ some) cut.2, ap (λ b. cond b (x ∷ filter p cut.0) (filter p cut.0)) fails ∙ cut.3, cut.4)

  -- a list is cut where what a filter keeps of it is
  pub cut_kept : (xs front : List A) (y : A) (back : List A) → filter p xs ≡ front ++ y ∷ back → CutKept xs front y
  cut_kept [] front y back is = absurd (not_empty front y back (sym is))
  cut_kept (x ∷ xs) front y back is =
      elim (p x) as (λ b. p x ≡ b → cond b (x ∷ filter p xs) (filter p xs) ≡ front ++ y ∷ back → CutKept (x ∷ xs) front y) [
        | true ↦ λ passes kept. kept_here x xs front y back passes kept (λ rest. cut_kept xs rest y back)
        | false ↦ λ fails kept. kept_later x xs front y fails (cut_kept xs front y back kept)
      ] refl is

  -- of two lists of which the filter keeps the same, the other is cut at the same element
  pub cut_moved : (xs ys : List A) → filter p xs ≡ filter p ys → (front : List A) (y : A) (back : List A) → front ++ y ∷ back ≡ xs
      → p y ≡ true → (before : List A) × (after : List A) × (before ++ y ∷ after ≡ ys) × (filter p before ≡ filter p front) × (p y ≡ true)
  cut_moved xs ys same front y back is passes =
      cut_kept ys (filter p front) y (filter p back) (sym same ∙ ap (filter p) (sym is) ∙ filter_cut front y back passes)

  -- where no element passes behind one that does, the filter keeps the first
  pub once_kept : (xs : List A) → ((front : List A) (x : A) (back : List A) → front ++ x ∷ back ≡ xs → p x ≡ true
      → list_any p front ≡ false)
      → filter p xs ≡ option_to_list (head_of (filter p xs))
  once_kept xs once = kept (filter p xs) refl
    where
      kept : (some : List A) → filter p xs ≡ some → some ≡ option_to_list (head_of some)
      kept [] is = refl
      kept (x ∷ []) is = refl
      kept (x ∷ y ∷ rest) is =
          let cut = cut_kept xs (x ∷ []) y rest is in
          let met = any_filter cut.0 ∙ ap (λ some. is_some (head_of some)) cut.3 in
          absurd (true≢false (sym met ∙ once cut.0 y cut.1 cut.2 cut.4))
