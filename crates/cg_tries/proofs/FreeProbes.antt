-- A free probe is the least that isn't there, and in a tree of fewer than 2^64 cgroups there is one: so many numbers have
-- texts of their own.
use Rattle.std.proofs.Common.{◌≡◌, ℕ, zero, suc, ◌+◌, ◌<◌, ◌≤◌, ◌^◌, Bool, true, false, cond, not, ◌||◌, List, [], ◌∷◌, ◌++◌, map, length, find, Some, None, codes, decimal, refl, sym, ap, ◌∙◌, subst, true≢false, arith, ◌⊎◌, inl, inr, ⊎_elim}
use Rattle.std.specs.List.{AllByRecursion, IsDistinct}
use Rattle.std.specs.Ordering.{eq_by_cmp}
use Rattle.std.specs.Cmp.{eq_by_cmp_equiv}
use Rattle.std.specs.Set.{is_member}
use Rattle.std.specs.FinMap.{contains_key-keys}
use Rattle.std.proofs.lemmas.Bool.{false_from_ne_true, cases_lt}
use Rattle.std.proofs.lemmas.Option.{none-some}
use Rattle.std.proofs.lemmas.List.{append_cancel_left, length-map}
use Rattle.std.proofs.lemmas.Fmt.{decimal_injective}
use Rattle.std.proofs.lemmas.Map.Made.{length-le_from_is_member}
use Rattle.cg_cgroup.specs.Paths.{Name, Names, path_cmp}
use Rattle.cg_cgroup.proofs.Options.{same_some}
use Rattle.cg_cgroup.proofs.PathOrder.{path_cmp_total, same_path-ties, same_path-is}
use Rattle.cg_model.specs.States.{State, paths_of}
use Rattle.cg_model.specs.WellFormed.{has_row}
use Rattle.cg_model.specs.Tries.{probe, numbers_from, free_probe}

-- ---- names

same_probe : (ancestor : Names) (m n : ℕ) → m < 2 ^ 64 → n < 2 ^ 64 → probe ancestor m ≡ probe ancestor n → m ≡ n
same_probe ancestor m n small little is =
    let names = append_cancel_left ancestor ((codes "probe" ++ decimal m) ∷ []) ((codes "probe" ++ decimal n) ∷ []) is in
    decimal_injective m n small little (append_cancel_left (codes "probe") (decimal m) (decimal n) (same_only _ _ names))
  where
    same_only : (x y : Name) → ◌≡◌ {A = Names} (x ∷ []) (y ∷ []) → x ≡ y
    same_only x y h = cc

tied : (p q : Names) → eq_by_cmp path_cmp p q ≡ true → p ≡ q
tied p q h = same_path-is p q (same_path-ties p q ∙ h)

length-numbers : (number count : ℕ) → length (numbers_from number count) ≡ count
length-numbers number zero = refl
length-numbers number (suc count) = ap suc (length-numbers (suc number) count)

module _ (st : State) (ancestor : Names) where
  abbrev is_free : ℕ → Bool
  is_free number = not (has_row st (probe ancestor number))

  -- ---- the least

  -- the first that is free, and those before it
  IsLeast : ℕ → ℕ → Type 0
  IsLeast from number =
      (has_row st (probe ancestor number) ≡ false) × (from ≤ number)
      × ((lesser : ℕ) → from ≤ lesser → lesser < number → has_row st (probe ancestor lesser) ≡ true)

  least-found : (from count number : ℕ) → find is_free (numbers_from from count) ≡ Some number → IsLeast from number
  unfolding IsLeast
  least-found from zero number h = absurd (none-some number h)
  least-found from (suc count) number h =
      elim (has_row st (probe ancestor from)) as (λ there. has_row st (probe ancestor from) ≡ there
      → cond (not there) (Some from) (find is_free (numbers_from (suc from) count)) ≡ Some number → IsLeast from number) [
        | true ↦ λ there later.
            let rest = least-found (suc from) count number later in (
              rest.0,
              omega (arith, rest.1),
              λ lesser low less. elim (is_first from lesser low) [
                | inl same ↦ subst (λ n. has_row st (probe ancestor n) ≡ true) same there
                | inr above ↦ rest.2 lesser above less
              ],
            )
        | false ↦ λ gone found.
            let same = same_some from number found in (
              ap (λ n. has_row st (probe ancestor n)) (sym same) ∙ gone,
              omega (arith, same),
              λ lesser low less. absurd (omega (arith, same, low, less)),
            )
      ] refl h
    where
      is_first : (from lesser : ℕ) → from ≤ lesser → (from ≡ lesser) ⊎ (suc from ≤ lesser)
      is_first from lesser low = ⊎_elim (λ above. inr above) (λ below. inl (omega (arith, low, below))) (cases_lt from lesser)

  pub probe-free : (number : ℕ) → free_probe st ancestor ≡ Some number → has_row st (probe ancestor number) ≡ false
  unfolding IsLeast
  probe-free number h = (least-found 0 (length (paths_of st) + 1) number h).0

  pub probe-least : (number lesser : ℕ) → free_probe st ancestor ≡ Some number → lesser < number → has_row st (probe ancestor lesser) ≡ true
  unfolding IsLeast
  probe-least number lesser h = (least-found 0 (length (paths_of st) + 1) number h).2 lesser (omega arith)

  -- ---- one is found

  none-free : (from count : ℕ) → find is_free (numbers_from from count) ≡ None
      → AllByRecursion (λ number. has_row st (probe ancestor number) ≡ true) (numbers_from from count)
  none-free from zero h = tt
  none-free from (suc count) h =
      elim (has_row st (probe ancestor from)) as (λ there. cond (not there) (Some from) (find is_free (numbers_from (suc from) count))
      ≡ None
      → (there ≡ true) × AllByRecursion (λ number. has_row st (probe ancestor number) ≡ true) (numbers_from (suc from) count)) [
        | true ↦ λ later. (refl, none-free (suc from) count later)
        | false ↦ λ found. absurd (none-some from (sym found))
      ] h

  all_others : (number from count : ℕ) → number < from → from + count ≤ 2 ^ 64
      → AllByRecursion (λ path. eq_by_cmp path_cmp (probe ancestor number) path ≡ false) (map (probe ancestor) (numbers_from from count))
  all_others number from zero less small = tt
  all_others number from (suc count) less small = (
    false_from_ne_true (eq_by_cmp path_cmp (probe ancestor number) (probe ancestor from)) (λ ties.
        let same =
        same_probe ancestor number from (omega (arith, less, small)) (omega (arith, small))
        (tied (probe ancestor number) (probe ancestor from) ties) in
        absurd (omega (arith, same, less))),
    all_others number (suc from) count (omega (arith, less)) (omega (arith, small)),
  )

  distinct : (from count : ℕ) → from + count ≤ 2 ^ 64 → IsDistinct (eq_by_cmp path_cmp) (map (probe ancestor) (numbers_from from count))
  unfolding IsDistinct
  distinct from zero small = tt
  distinct from (suc count) small =
      (all_others from (suc from) count (omega arith) (omega (arith, small)), distinct (suc from) count (omega (arith, small)))

  listed : (path : Names) (numbers : List ℕ) → AllByRecursion (λ number. has_row st (probe ancestor number) ≡ true) numbers
      → is_member (eq_by_cmp path_cmp) (map (probe ancestor) numbers) path ≡ true → has_row st path ≡ true
  listed path [] there h = absurd (true≢false (sym h))
  listed path (number ∷ numbers) there h =
      elim (eq_by_cmp path_cmp path (probe ancestor number)) as (λ same. eq_by_cmp path_cmp path (probe ancestor number) ≡ same
      → (same || is_member (eq_by_cmp path_cmp) (map (probe ancestor) numbers) path) ≡ true → has_row st path ≡ true) [
        | true ↦ λ ties _. ap (has_row st) (tied path (probe ancestor number) ties) ∙ there.0
        | false ↦ λ _ later. listed path numbers there.1 later
      ] refl h

  pub probe-found : length (paths_of st) < 2 ^ 64 → (number : ℕ) × (free_probe st ancestor ≡ Some number)
  probe-found small =
      let count = length (paths_of st) + 1 in
      let numbers = numbers_from 0 count in
      elim (free_probe st ancestor) as (λ found. free_probe st ancestor ≡ found → (number : ℕ) × (found ≡ Some number)) [
        | Some number ↦ λ _. (number, refl)
        | None ↦ λ none.
            let there = none-free 0 count none in
            let few =
            length-le_from_is_member (eq_by_cmp_equiv path_cmp_total) (map (probe ancestor) numbers) (paths_of st)
            (distinct 0 count (omega (arith, small)))
            (λ path h. sym (contains_key-keys st.rows path) ∙ listed path numbers there h) in
            let many : length (map (probe ancestor) numbers) ≡ count = length-map numbers (probe ancestor) ∙ length-numbers 0 count in
            absurd (omega (arith, few, many))
      ] refl
