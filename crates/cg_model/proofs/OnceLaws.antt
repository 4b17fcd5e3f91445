-- What is the same of a list in which what is named again counts once.
use Rattle.std.proofs.Common.{◌≡◌, Bool, true, false, not, ◌||◌, cond, List, [], ◌∷◌, ◌++◌, refl, ap, sym, ◌∙◌}
use Rattle.std.specs.List.{list_any, filter, AllByRecursion}
use Rattle.std.proofs.lemmas.List.Elements.{filter-append}
use Rattle.cg_model.specs.Once.{once}

-- one more is new where none before is the same
pub once_more : {A : Type 0} (same : A → A → Bool) (xs : List A) (x : A)
    → once same (xs ++ x ∷ []) ≡ once same xs ++ cond (list_any (λ y. same y x) xs) [] (x ∷ [])
once_more same [] x = refl
once_more same (y ∷ xs) x =
    ap (λ l. y ∷ filter (λ z. not (same y z)) l) (once_more same xs x)
    ∙ ap (λ l. y ∷ l) (filter-append (λ z. not (same y z)) (once same xs) (cond (list_any (λ z. same z x) xs) [] (x ∷ [])))
    ∙ ap (λ l. y ∷ (filter (λ z. not (same y z)) (once same xs) ++ l)) (kept (list_any (λ z. same z x) xs))
  where
    kept : (seen : Bool) → filter (λ z. not (same y z)) (cond seen [] (x ∷ [])) ≡ cond (same y x || seen) [] (x ∷ [])
    kept true = elim (same y x) as (λ b. [] ≡ cond (b || true) [] (x ∷ [])) [ true ↦ refl | false ↦ refl ]
    kept false = elim (same y x) as (λ b. cond (not b) (x ∷ []) [] ≡ cond (b || false) [] (x ∷ [])) [ true ↦ refl | false ↦ refl ]

-- what holds of each element holds of those that pass a test
pub all-filter : {A : Type 0} (P : A → Type 0) (test : A → Bool) (xs : List A) → AllByRecursion P xs → AllByRecursion P (filter test xs)
all-filter P test [] all = tt
all-filter P test (x ∷ xs) all =
    elim (test x) as (λ b. AllByRecursion P (cond b (x ∷ filter test xs) (filter test xs))) [
      | true ↦ (all.0, all-filter P test xs all.1)
      | false ↦ all-filter P test xs all.1
    ]

pub all-once : {A : Type 0} (P : A → Type 0) (same : A → A → Bool) (xs : List A) → AllByRecursion P xs → AllByRecursion P (once same xs)
all-once P same [] all = tt
all-once P same (x ∷ xs) all = (all.0, all-filter P (λ y. not (same x y)) (once same xs) (all-once P same xs all.1))

-- where none passes none is left
pub filter-none : {A : Type 0} (test : A → Bool) (xs : List A) → list_any test xs ≡ false → filter test xs ≡ []
filter-none test [] none = refl
filter-none test (x ∷ xs) none =
    elim (test x) as (λ b. b || list_any test xs ≡ false → cond b (x ∷ filter test xs) (filter test xs) ≡ []) [
      | true ↦ λ h. let never : ⊥ = cc in absurd never
      | false ↦ λ h. filter-none test xs h
    ] none

-- a test that those who are the same pass together
module _ {A : Type 0} (same : A → A → Bool) (test : A → Bool) (alike : (x y : A) → same x y ≡ true → test x ≡ test y) where
  any-filter : (x : A) (xs : List A) → test x ≡ false → list_any test (filter (λ y. not (same x y)) xs) ≡ list_any test xs
  any-filter x [] off = refl
  any-filter x (y ∷ ys) off =
      elim (same x y) as (λ b. same x y ≡ b
      → list_any test (cond (not b) (y ∷ filter (λ z. not (same x z)) ys) (filter (λ z. not (same x z)) ys)) ≡ test y || list_any test ys) [
        | true ↦ λ is. any-filter x ys off ∙ ap (λ b. b || list_any test ys) (sym off ∙ alike x y is)
        | false ↦ λ _. ap (λ b. test y || b) (any-filter x ys off)
      ] refl

  pub any-once : (xs : List A) → list_any test (once same xs) ≡ list_any test xs
  any-once [] = refl
  any-once (x ∷ xs) =
      elim (test x) as (λ b. test x ≡ b → b || list_any test (filter (λ y. not (same x y)) (once same xs)) ≡ b || list_any test xs) [
        | true ↦ λ _. refl
        | false ↦ λ off. any-filter x (once same xs) off ∙ any-once xs
      ] refl
