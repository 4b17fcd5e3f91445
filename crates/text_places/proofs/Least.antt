-- The least of some values so far, by a number of each, among those that are at most a limit.
use Rattle.std.proofs.Common.{◌≡◌, ℕ, ◌+◌, ◌<◌, ◌≤◌, List, Option, Some, None, length, take, get_or, refl, sym, subst, arith, ◌∙◌, IfSome, MatchOption}
use Rattle.std.specs.List.{All, Contains}
use Rattle.std.proofs.lemmas.List.Elements.{All-more}
use Rattle.std.proofs.lemmas.List.{get_or-take, get_or_default}
use Rattle.std.proofs.lemmas.Grind.{common_steps}

pub record IsLeast {X : Type 0} (f : X → ℕ) (limit : ℕ) (seen : List X) (least : Option X) (below : ℕ) : Type 0 where
  pub all : All (λ x. below ≤ f x) seen
  pub one : IfSome least (λ x. Contains seen x)
  pub kept : MatchOption least (below ≡ limit + 1) (λ x. (below ≡ f x) × (below ≤ limit))

pub at_most : {X : Type 0} (f : X → ℕ) (limit : ℕ) (seen : List X) (least : Option X) (below : ℕ)
    → IsLeast f limit seen least below → below ≤ limit + 1
at_most f limit seen None below so_far = let e = so_far.kept in omega arith
at_most f limit seen (Some x) below so_far = let e = so_far.kept in omega arith

pub contains_more : {X : Type 0} (xs : List X) (i : ℕ) (x : X) → i < length xs → Contains (take i xs) x → Contains (take (i + 1) xs) x
contains_more xs i x short (k, within, there) = (k, grind (arith, common_steps, within, there), grind (arith, common_steps, within, there))

pub contains_last : {X : Type 0} (xs : List X) (i : ℕ) (d : X) → i < length xs → Contains (take (i + 1) xs) (get_or xs i d)
contains_last xs i d short = (
  i,
  grind (arith, common_steps),
  get_or-take (i + 1) xs i (get_or xs i d) (omega arith) ∙ get_or_default xs i (get_or xs i d) d short,
)

kept_one : {X : Type 0} (xs : List X) (i : ℕ) (least : Option X) → i < length xs
    → IfSome least (λ x. Contains (take i xs) x) → IfSome least (λ x. Contains (take (i + 1) xs) x)
kept_one xs i None short one = one
kept_one xs i (Some x) short one = contains_more xs i x short one

-- the next element is less
nearer : {X : Type 0} (f : X → ℕ) (limit : ℕ) (xs : List X) (i : ℕ) (d : X) (least : Option X) (below : ℕ)
    → IsLeast f limit (take i xs) least below → i < length xs → f (get_or xs i d) < below
    → IsLeast f limit (take (i + 1) xs) (Some (get_or xs i d)) (f (get_or xs i d))
nearer {X} f limit xs i d least below so_far short less =
    let bound : below ≤ limit + 1 = at_most f limit (take i xs) least below so_far in
    let P : X → Type 0 = λ y. f (get_or xs i d) ≤ f y in record {
      all = All-more P xs i d short
          (λ k e within. let known : below ≤ f (get_or (take i xs) k e) = so_far.all k e within in omega arith) (omega arith);
      one = contains_last xs i d short;
      kept = (refl, omega arith);
    }

pub nearer_as : {X : Type 0} (f : X → ℕ) (limit : ℕ) (xs : List X) (i : ℕ) (d : X) (least new : Option X) (below n now : ℕ)
    → IsLeast f limit (take i xs) least below → i < length xs → new ≡ Some (get_or xs i d) → now ≡ n → n ≡ f (get_or xs i d)
    → n < below
    → IsLeast f limit (take (i + 1) xs) new now
nearer_as {X} f limit xs i d least new below n now so_far short new_is now_is n_is less =
    let P : Option X → Type 0 = λ o. IsLeast f limit (take (i + 1) xs) o now in
    let Q : ℕ → Type 0 = λ m. IsLeast f limit (take (i + 1) xs) (Some (get_or xs i d)) m in
    let L : ℕ → Type 0 = λ m. m < below in
    subst P (sym new_is) (subst Q (sym (now_is ∙ n_is)) (nearer f limit xs i d least below so_far short (subst L n_is less)))

-- the next element isn't less
farther : {X : Type 0} (f : X → ℕ) (limit : ℕ) (xs : List X) (i : ℕ) (d : X) (least : Option X) (below : ℕ)
    → IsLeast f limit (take i xs) least below → i < length xs → below ≤ f (get_or xs i d)
    → IsLeast f limit (take (i + 1) xs) least below
farther {X} f limit xs i d least below so_far short less =
    let P : X → Type 0 = λ y. below ≤ f y in record {
      all = All-more P xs i d short so_far.all less;
      one = kept_one xs i least short so_far.one;
      kept = so_far.kept;
    }

pub farther_as : {X : Type 0} (f : X → ℕ) (limit : ℕ) (xs : List X) (i : ℕ) (d : X) (least new : Option X) (below n now : ℕ)
    → IsLeast f limit (take i xs) least below → i < length xs → new ≡ least → now ≡ below → n ≡ f (get_or xs i d) → below ≤ n
    → IsLeast f limit (take (i + 1) xs) new now
farther_as {X} f limit xs i d least new below n now so_far short new_is now_is n_is less =
    let P : Option X → Type 0 = λ o. IsLeast f limit (take (i + 1) xs) o now in
    let Q : ℕ → Type 0 = λ m. IsLeast f limit (take (i + 1) xs) least m in
    let L : ℕ → Type 0 = λ m. below ≤ m in
    subst P (sym new_is) (subst Q (sym now_is) (farther f limit xs i d least below so_far short (subst L n_is less)))
