-- What holds of each element of a list that is made from another, and the first of those that pass.
use Rattle.std.proofs.Common.{◌≡◌, Bool, true, false, cond, ◌&&◌, List, [], ◌∷◌, ◌++◌, map, filter, refl, ap, sym, ◌∙◌, subst, Option, Some, None}
use Rattle.std.specs.List.{find, flat_map, AllByRecursion}
use Rattle.cg_model.specs.Clauses.{present}

pub all-append : {A : Type 0} (P : A → Type 0) (xs ys : List A) → AllByRecursion P xs → AllByRecursion P ys → AllByRecursion P (xs ++ ys)
all-append P [] ys here there = there
all-append P (x ∷ xs) ys here there = (here.0, all-append P xs ys here.1 there)

pub all-flat_map : {A B : Type 0} (P : B → Type 0) (g : A → List B) (xs : List A) → ((x : A) → AllByRecursion P (g x))
    → AllByRecursion P (flat_map g xs)
all-flat_map P g [] each = tt
all-flat_map P g (x ∷ xs) each = all-append P (g x) (flat_map g xs) (each x) (all-flat_map P g xs each)

pub all-present : {A B : Type 0} (P : B → Type 0) (found : Option A) (g : A → List B) → ((x : A) → found ≡ Some x → AllByRecursion P (g x))
    → AllByRecursion P (present found g)
all-present P None g each = tt
all-present P (Some x) g each = each x refl

pub all-map_filter : {A B : Type 0} (P : B → Type 0) (g : A → B) (test : A → Bool) (xs : List A) → ((x : A) → test x ≡ true → P (g x))
    → AllByRecursion P (map g (filter test xs))
all-map_filter P g test [] each = tt
all-map_filter P g test (x ∷ xs) each =
    elim (test x) as (λ b. test x ≡ b → AllByRecursion P (map g (cond b (x ∷ filter test xs) (filter test xs)))) [
      | true ↦ λ e. (each x e, all-map_filter P g test xs each)
      | false ↦ λ e. all-map_filter P g test xs each
    ] refl

pub all-flat_filter : {A B : Type 0} (P : B → Type 0) (g : A → List B) (test : A → Bool) (xs : List A)
    → ((x : A) → test x ≡ true → AllByRecursion P (g x)) → AllByRecursion P (flat_map g (filter test xs))
all-flat_filter P g test [] each = tt
all-flat_filter P g test (x ∷ xs) each =
    elim (test x) as (λ b. test x ≡ b → AllByRecursion P (flat_map g (cond b (x ∷ filter test xs) (filter test xs)))) [
      | true ↦ λ e. all-append P (g x) (flat_map g (filter test xs)) (each x e) (all-flat_filter P g test xs each)
      | false ↦ λ e. all-flat_filter P g test xs each
    ] refl

pub all-both : {A : Type 0} (P Q R : A → Type 0) → ((x : A) → P x → Q x → R x) → (xs : List A) → AllByRecursion P xs → AllByRecursion Q xs
    → AllByRecursion R xs
all-both P Q R both [] ps qs = tt
all-both P Q R both (x ∷ xs) ps qs = (both x ps.0 qs.0, all-both P Q R both xs ps.1 qs.1)

pub all-each : {A : Type 0} (P Q : A → Type 0) → ((x : A) → P x → Q x) → (xs : List A) → AllByRecursion P xs → AllByRecursion Q xs
all-each P Q each [] ps = tt
all-each P Q each (x ∷ xs) ps = (each x ps.0, all-each P Q each xs ps.1)

pub find-passes : {A : Type 0} (p : A → Bool) (xs : List A) (x : A) → find p xs ≡ Some x → p x ≡ true
find-passes p [] x e = cc
find-passes p (y ∷ ys) x e =
    elim (p y) as (λ b. p y ≡ b → cond b (Some y) (find p ys) ≡ Some x → p x ≡ true) [
      | true ↦ λ passes found. let same : y ≡ x = cc in sym (ap p same) ∙ passes
      | false ↦ λ _ found. find-passes p ys x found
    ] refl e

pub find-all : {A : Type 0} (P : A → Type 0) (p : A → Bool) (xs : List A) → AllByRecursion P xs → (x : A) → find p xs ≡ Some x → P x
find-all P p [] all x e = cc
find-all P p (y ∷ ys) all x e =
    elim (p y) as (λ b. cond b (Some y) (find p ys) ≡ Some x → P x) [
      | true ↦ λ found. let same : y ≡ x = cc in subst P same all.0
      | false ↦ λ found. find-all P p ys all.1 x found
    ] e

pub find-same : {A : Type 0} (p q : A → Bool) (xs : List A) → ((x : A) → p x ≡ q x) → find p xs ≡ find q xs
find-same p q [] same = refl
find-same p q (x ∷ xs) same = λ i. cond (same x i) (Some x) (find-same p q xs same i)

pub find-filter : {A : Type 0} (p q : A → Bool) (xs : List A) → find p (filter q xs) ≡ find (λ x. q x && p x) xs
find-filter p q [] = refl
find-filter p q (x ∷ xs) =
    elim (q x) as (λ b. find p (cond b (x ∷ filter q xs) (filter q xs)) ≡ cond (b && p x) (Some x) (find (λ x. q x && p x) xs)) [
      | true ↦ ap (cond (p x) (Some x)) (find-filter p q xs)
      | false ↦ find-filter p q xs
    ]
