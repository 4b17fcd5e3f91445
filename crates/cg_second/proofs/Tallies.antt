-- Counts of the cgroups before each place, one place after another.
use Rattle.std.proofs.Common.{◌≡◌, ℕ, ◌+◌, ◌≤◌, ◌<◌, Bool, true, false, cond, List, [], ◌∷◌, ◌++◌, length, take, get_or, count_by, refl, sym, ap, ◌∙◌, ⊎_elim, arith}
use Rattle.std.proofs.lemmas.Bool.{cases_lt}
use Rattle.std.proofs.lemmas.List.{get_or_append_left, get_or-append-add, length-append, length-take-le}
use Rattle.std.proofs.lemmas.List.Sums.{count_by-le-length, count_by_more_yes, count_by_more_no}
use Rattle.cg_cgroup.specs.Paths.{Names}
use Rattle.cg_model.specs.States.{State, paths_of, count_below}
use Rattle.cg_second.specs.Counts.{AreEnds, IsTally}

-- ---- a list that grows by one

module _ (xs : List ℕ) (v : ℕ) where
  one_longer : length (xs ++ v ∷ []) ≡ length xs + 1
  one_longer = length-append xs (v ∷ [])

  the_last : (k : ℕ) → k ≡ length xs → get_or (xs ++ v ∷ []) k 0 ≡ v
  the_last k is =
      ap (λ n. get_or (xs ++ v ∷ []) n 0) (let e : k ≡ length xs + 0 = omega (arith, is) in e) ∙ get_or-append-add xs (v ∷ []) 0 0

module _ (test : Names → Bool) (paths : List Names) where
  pub one_more_counted : (n : ℕ) → n < length paths
      → count_by test (take (n + 1) paths) ≡ count_by test (take n paths) + cond (test (get_or paths n [])) 1 0
  one_more_counted n short = by_test (test (get_or paths n [])) refl
    where
      by_test : (b : Bool) → test (get_or paths n []) ≡ b
          → count_by test (take (n + 1) paths) ≡ count_by test (take n paths) + cond b 1 0
      by_test true passes = count_by_more_yes test paths n [] short passes
      by_test false passes = let same = count_by_more_no test paths n [] short passes in omega (arith, same)

  pub tally-none : IsTally test paths 0 (0 ∷ []) 0
  tally-none = record {
    each = (
      refl,
      λ k few. let none : k ≡ 0 = omega (arith, few) in
          ap (λ n. get_or (0 ∷ []) n 0) none ∙ ap (λ n. count_by test (take n paths)) (sym none),
    );
    last = refl;
  }

  pub tally-fits : (n : ℕ) (counts : List ℕ) (count : ℕ) → IsTally test paths n counts count → n ≤ length paths → count < length counts
  tally-fits n counts count tally short =
      let few = count_by-le-length test (take n paths) in
      let taken = length-take-le n paths short in
      omega (arith, few, taken, tally.last, tally.each.0)

  pub tally-more : (n : ℕ) (counts next : List ℕ) (count more : ℕ) (passes : Bool) → IsTally test paths n counts count → n < length paths
      → passes ≡ test (get_or paths n []) → next ≡ counts ++ more ∷ [] → more ≡ count + cond passes 1 0
      → IsTally test paths (n + 1) next more
  tally-more n counts next count more passes tally short passes-is next-is more-is =
      let last : more ≡ count_by test (take (n + 1) paths) =
      more-is ∙ (λ i. tally.last i + cond (passes-is i) 1 0) ∙ sym (one_more_counted n short) in
      record {
        each = (
          (let longer = ap length next-is ∙ one_longer counts more in omega (arith, longer, tally.each.0)),
          λ k few. ap (λ xs. get_or xs k 0) next-is ∙ ⊎_elim
              (λ before. get_or_append_left counts (more ∷ []) 0 k (omega (arith, before, tally.each.0))
              ∙ tally.each.1 k (omega (arith, before)))
              (λ at. let same : k ≡ n + 1 = omega (arith, few, at) in
              the_last counts more k (omega (arith, same, tally.each.0)) ∙ last ∙ ap (λ m. count_by test (take m paths)) (sym same))
              (cases_lt k (n + 1)),
        );
        last = last;
      }

-- ---- ends

pub ends-more : (st : State) (n : ℕ) (ends next : List ℕ) (end : ℕ) → AreEnds st n ends
    → end ≡ n + 1 + count_below st (get_or (paths_of st) n []) → next ≡ ends ++ end ∷ [] → AreEnds st (n + 1) next
ends-more st n ends next end are end-is next-is = (
  (let longer = ap length next-is ∙ one_longer ends end in omega (arith, longer, are.0)),
  λ k few. ap (λ xs. get_or xs k 0) next-is ∙ ⊎_elim
      (λ before. get_or_append_left ends (end ∷ []) 0 k (omega (arith, before, are.0)) ∙ are.1 k before)
      (λ at. let same : k ≡ n = omega (arith, few, at) in
      the_last ends end k (omega (arith, same, are.0)) ∙ end-is
      ∙ ap (λ m. m + 1 + count_below st (get_or (paths_of st) m [])) (sym same))
      (cases_lt k n),
)
