-- Paths in their order: what lies below one stands together, right after it.
use Rattle.std.proofs.Common.{◌≡◌, ℕ, zero, suc, ◌+◌, ◌≤◌, ◌<◌, Bool, true, false, ◌&&◌, ◌||◌, cond, List, [], ◌∷◌, length, take, get_or, map, count_by, nat_lt, refl, sym, ap, ◌∙◌, true≢false, ⊎_elim, inl, inr, arith, take_all, lt-ltb, le-ltb, one-add}
use lib.Dec.{T}
use Rattle.std.specs.List.{list_any, AllByRecursion}
use Rattle.std.specs.declared.cmp.Ordering.{Ordering}
use Rattle.std.specs.declared.cmp.Ordering.TheVariants.{Less, Equal, Greater}
use Rattle.std.specs.Ordering.{is_eq, is_lt, is_gt, ordering_reverse}
use Rattle.std.specs.Cmp.{tied_itself}
use Rattle.std.specs.FinMap as finite
use Rattle.std.specs.FinMap.Entries.{is_sorted, below_all}
use Rattle.std.proofs.lemmas.Bool.{and_parts, and_from, and_left, or_left, or_right, cases_Bool, cases_lt}
use Rattle.std.proofs.lemmas.List.Recursion.{is_count_by}
use Rattle.cg_cgroup.specs.Paths.{Names, path_cmp, inside, below, same_path}
use Rattle.cg_cgroup.proofs.PathOrder.{path_cmp_total, same_path-is, same_path_refl}
use Rattle.cg_cgroup.proofs.PathLaws.{inside-first, inside_between}
use Rattle.cg_cgroup.proofs.PathParents.{inside-is}
use Rattle.cg_model.specs.States.{State, paths_of, count_below}
use Rattle.cg_model.specs.WellFormed.{has_row}
use Rattle.cg_model.proofs.MapFolds.{gathered}
use Rattle.cg_model.proofs.StateCounts.{one_more}
use Rattle.cg_second.proofs.Greatest.{any-row}
use Rattle.cg_second.specs.Anchors.{any_below}

-- ---- counts from the front

abbrev count : (Names → Bool) → List Names → ℕ
count test = gathered (one_more test) 0

counted : (test : Names → Bool) (paths : List Names) → count test paths ≡ count_by test paths
counted test = is_count_by (count test) test refl (λ x xs. refl)

none-counted : (test : Names → Bool) (paths : List Names) → AllByRecursion (λ q. test q ≡ false) paths → count test paths ≡ 0
none-counted test [] none = refl
none-counted test (path ∷ paths) (first, none) =
    ap (λ b. cond b (1 + count test paths) (count test paths)) first ∙ none-counted test paths none

any-counted : (test : Names → Bool) (paths : List Names) → list_any test paths ≡ nat_lt 0 (count test paths)
any-counted test [] = refl
any-counted test (path ∷ paths) =
    elim (test path) as (λ b. b || list_any test paths ≡ nat_lt 0 (cond b (1 + count test paths) (count test paths))) [
      | true ↦ sym (lt-ltb 0 (1 + count test paths) (omega arith))
      | false ↦ any-counted test paths
    ]

shift : (k n m : ℕ) → m ≡ suc n → nat_lt k n ≡ nat_lt (suc k) m
shift k n m h =
    ⊎_elim (λ more. lt-ltb k n more ∙ sym (lt-ltb (suc k) m (omega (arith, more, h))))
    (λ fewer. le-ltb k n fewer ∙ sym (le-ltb (suc k) m (omega (arith, fewer, h)))) (cases_lt k n)

peel : (b : Bool) (m n k : ℕ) → m + n ≡ k → m + cond b (1 + n) n ≡ cond b (1 + k) k
peel true m n k h = omega (arith, h)
peel false m n k h = h

-- ---- paths that rise

abbrev pub Rising : List Names → Type 0
Rising [] = Unit {0}
Rising (path ∷ paths) = AllByRecursion (λ q. path_cmp path q ≡ Less) paths × Rising paths

less : (r : Ordering) → is_lt r ≡ true → r ≡ Less
less Less e = refl
less Equal e = absurd (true≢false (sym e))
less Greater e = absurd (true≢false (sym e))

module _ {X : Type 0} where
  above_keys : (path : Names) (es : List (Names × X)) → below_all path_cmp path es ≡ true
      → AllByRecursion (λ q. path_cmp path q ≡ Less) (map (λ e. e.0) es)
  above_keys path [] h = tt
  above_keys path (e ∷ es) h = let parts = and_parts _ _ h in (less _ parts.0, above_keys path es parts.1)

  rising_keys : (es : List (Names × X)) → is_sorted path_cmp es ≡ true → Rising (map (λ e. e.0) es)
  rising_keys [] h = tt
  rising_keys (e ∷ es) h = let parts = and_parts _ _ h in (above_keys e.0 es parts.0, rising_keys es parts.1)

is_so : (b : Bool) → T b → b ≡ true
is_so true h = refl
is_so false h = absurd h

pub paths-rise : (st : State) → Rising (paths_of st)
paths-rise st = rising_keys (finite.entries st.rows) (is_so _ (finite.entries_sorted st.rows))

-- ---- one path and another

module _ (p q : Names) (rises : path_cmp p q ≡ Less) where
  not_same : p ≡ q → {P : Type 0} → P
  not_same same =
      let equal : Equal ≡ Less = sym (tied_itself path_cmp_total p) ∙ ap (path_cmp p) same ∙ rises in
      absurd (true≢false (ap is_eq equal))

  inside-below : inside p q ≡ below p q
  inside-below =
      elim (cases_Bool (inside p q)) [
        | inl h ↦ h ∙ sym (and_from _ _ h (lt-ltb _ _ (longer h)))
        | inr h ↦ h ∙ sym (and_left _ _ h)
      ]
    where
      longer : inside p q ≡ true → length p < length q
      longer h =
          ⊎_elim (λ more. more)
          (λ whole. not_same (sym (inside-is p q h) ∙ take_all (length p) q whole)) (cases_lt (length p) (length q))

  -- what comes before a path isn't inside it
  outside-first : inside q p ≡ false
  outside-first =
      elim (cases_Bool (inside q p)) [
        | inl h ↦
            let turned : path_cmp q p ≡ Greater = path_cmp_total.antisymm q p ∙ ap ordering_reverse rises in
            absurd (true≢false (ap is_gt (sym turned) ∙ inside-first q p h))
        | inr h ↦ h
      ]

-- ---- what lies below the first of some paths that rise

module _ (p : Names) where
  apart : (v : Names) (vs : List Names) → path_cmp p v ≡ Less → inside p v ≡ false
      → AllByRecursion (λ q. path_cmp v q ≡ Less) vs → AllByRecursion (λ q. inside p q ≡ false) vs
  apart v [] rises outside later = tt
  apart v (q ∷ vs) rises outside (above, later) = (
    elim (cases_Bool (inside p q)) [
      | inl h ↦ absurd (true≢false (sym (inside_between p v q (ap is_gt rises) (ap is_gt above) h) ∙ outside))
      | inr h ↦ h
    ],
    apart v vs rises outside later,
  )

  none-below : (test : Names → Bool) (vs : List Names) → AllByRecursion (λ q. inside p q ≡ false) vs
      → AllByRecursion (λ q. (below p q && test q) ≡ false) vs
  none-below test [] none = tt
  none-below test (q ∷ vs) (first, none) = (and_left _ _ (and_left _ _ first), none-below test vs none)

  only-below : (vs : List Names) → AllByRecursion (λ q. inside p q ≡ false) vs → AllByRecursion (λ q. below p q ≡ false) vs
  only-below [] none = tt
  only-below (q ∷ vs) (first, none) = (and_left _ _ first, only-below vs none)

  front : (test : Names → Bool) (vs : List Names) → AllByRecursion (λ q. path_cmp p q ≡ Less) vs → Rising vs
      → count (λ q. below p q && test q) vs ≡ count test (take (count (below p) vs) vs)
  front test [] later rises = refl
  front test (v ∷ vs) (first, later) (above, rises) =
      elim (cases_Bool (inside p v)) [
        | inl h ↦
            let lower : below p v ≡ true = sym (inside-below p v first) ∙ h in
            let n = count (below p) vs in
            ap (λ b. cond (b && test v) (1 + count (λ q. below p q && test q) vs) (count (λ q. below p q && test q) vs)) lower
            ∙ ap (λ m. cond (test v) (1 + m) m) (front test vs later rises)
            ∙ sym (ap (λ b. count test (take (cond b (1 + n) n) (v ∷ vs))) lower ∙ ap (λ m. count test (take m (v ∷ vs))) (one-add n))
        | inr h ↦
            let none = apart v vs first h above in
            none-counted (λ q. below p q && test q) (v ∷ vs) (none-below test (v ∷ vs) (h, none))
            ∙ sym (ap (λ n. count test (take n (v ∷ vs))) (none-counted (below p) (v ∷ vs) (only-below (v ∷ vs) (h, none))))
      ]

  -- the one at a place is below it where the place is among the first so many
  front-at : (vs : List Names) (k : ℕ) (d : Names) → AllByRecursion (λ q. path_cmp p q ≡ Less) vs → Rising vs → k < length vs
      → below p (get_or vs k d) ≡ nat_lt k (count (below p) vs)
  front-at [] k d later rises short = absurd (omega (arith, short))
  front-at (v ∷ vs) k d (first, later) (above, rises) short =
      elim (cases_Bool (inside p v)) [
        | inl h ↦
            let lower : below p v ≡ true = sym (inside-below p v first) ∙ h in
            within k short lower (λ j few. front-at vs j d later rises few)
            ∙ sym (ap (λ b. nat_lt k (cond b (1 + count (below p) vs) (count (below p) vs))) lower)
        | inr h ↦
            let none = only-below (v ∷ vs) (h, apart v vs first h above) in
            each (v ∷ vs) k d none short
            ∙ sym (ap (nat_lt k) (none-counted (below p) (v ∷ vs) none) ∙ le-ltb k 0 (omega arith))
      ]
    where
      each : (xs : List Names) (k : ℕ) (d : Names) → AllByRecursion (λ q. below p q ≡ false) xs → k < length xs
          → below p (get_or xs k d) ≡ false
      each [] k d none short = absurd (omega (arith, short))
      each (x ∷ xs) zero d (none, later) short = none
      each (x ∷ xs) (suc k) d (none, later) short = each xs k d later (omega (arith, short))

      within : (k : ℕ) → k < length (v ∷ vs) → below p v ≡ true
          → ((j : ℕ) → j < length vs → below p (get_or vs j d) ≡ nat_lt j (count (below p) vs))
          → below p (get_or (v ∷ vs) k d) ≡ nat_lt k (1 + count (below p) vs)
      within zero short lower rest = lower ∙ sym (lt-ltb 0 (1 + count (below p) vs) (omega arith))
      within (suc k) short lower rest =
          rest k (omega (arith, short)) ∙ shift k (count (below p) vs) (1 + count (below p) vs) (omega arith)

-- ---- what lies below one of some paths that rise

later_at : (x : Names) (xs : List Names) (i : ℕ) (d : Names) → AllByRecursion (λ q. path_cmp x q ≡ Less) xs → i < length xs
    → path_cmp x (get_or xs i d) ≡ Less
later_at x [] i d later short = absurd (omega (arith, short))
later_at x (y ∷ xs) zero d (first, later) short = first
later_at x (y ∷ xs) (suc i) d (first, later) short = later_at x xs i d later (omega (arith, short))

not_below : (p : Names) → below p p ≡ false
not_below p = and_right_false (inside p p) (le-ltb (length p) (length p) (omega arith))
  where
    and_right_false : (a : Bool) {b : Bool} → b ≡ false → (a && b) ≡ false
    and_right_false true h = h
    and_right_false false h = refl

module _ (test : Names → Bool) where
  range : (xs : List Names) (i : ℕ) (d : Names) → Rising xs → i < length xs
      → count (λ q. below (get_or xs i d) q && test q) xs + count test (take (suc i) xs)
      ≡ count test (take (suc i + count (below (get_or xs i d)) xs) xs)
  range [] i d rises short = absurd (omega (arith, short))
  range (x ∷ xs) zero d (later, rises) short =
      let n = count (below x) xs in
      let own = not_below x in
      ap (λ b. cond (b && test x) (1 + count (λ q. below x q && test q) xs) (count (λ q. below x q && test q) xs)
      + cond (test x) (1 + 0) 0) own
      ∙ peel (test x) (count (λ q. below x q && test q) xs) 0 (count test (take n xs))
      (let same = front x test xs later rises in omega (arith, same))
      ∙ sym (ap (λ b. count test (take (suc zero + cond b (1 + n) n) (x ∷ xs))) own ∙ ap (λ m. count test (take m (x ∷ xs))) (one-add n))
  range (x ∷ xs) (suc i) d (later, rises) short =
      let p = get_or xs i d in
      let n = count (below p) xs in
      let outside : below p x ≡ false = and_left _ _ (outside-first x p (later_at x xs i d later (omega (arith, short)))) in
      let more : suc (suc i) + n ≡ suc (suc i + n) = omega arith in
      ap (λ b. cond (b && test x) (1 + count (λ q. below p q && test q) xs) (count (λ q. below p q && test q) xs)
      + cond (test x) (1 + count test (take (suc i) xs)) (count test (take (suc i) xs))) outside
      ∙ peel (test x) (count (λ q. below p q && test q) xs) (count test (take (suc i) xs)) (count test (take (suc i + n) xs))
      (range xs i d rises (omega (arith, short)))
      ∙ sym (ap (λ b. count test (take (suc (suc i) + cond b (1 + n) n) (x ∷ xs))) outside ∙ ap (λ m. count test (take m (x ∷ xs))) more)

ends-within : (xs : List Names) (i : ℕ) (d : Names) → Rising xs → i < length xs
    → suc i + count (below (get_or xs i d)) xs ≤ length xs
ends-within [] i d rises short = absurd (omega (arith, short))
ends-within (x ∷ xs) zero d (later, rises) short =
    let own : count (below x) (x ∷ xs) ≡ count (below x) xs =
    ap (λ b. cond b (1 + count (below x) xs) (count (below x) xs)) (not_below x) in
    let few = at_most (below x) xs in
    omega (arith, own, few)
  where
    at_most : (test : Names → Bool) (ys : List Names) → count test ys ≤ length ys
    at_most test [] = omega arith
    at_most test (y ∷ ys) = let few = at_most test ys in one (test y) few
      where
        one : (b : Bool) → count test ys ≤ length ys → cond b (1 + count test ys) (count test ys) ≤ length (y ∷ ys)
        one true few = omega (arith, few)
        one false few = omega (arith, few)
ends-within (x ∷ xs) (suc i) d (later, rises) short =
    let p = get_or xs i d in
    let outside : below p x ≡ false = and_left _ _ (outside-first x p (later_at x xs i d later (omega (arith, short)))) in
    let own : count (below p) (x ∷ xs) ≡ count (below p) xs =
    ap (λ b. cond b (1 + count (below p) xs) (count (below p) xs)) outside in
    let few = ends-within xs i d rises (omega (arith, short)) in
    omega (arith, own, few)

range-at : (xs : List Names) (i k : ℕ) (d : Names) → Rising xs → i < k → k < length xs
    → below (get_or xs i d) (get_or xs k d) ≡ nat_lt k (suc i + count (below (get_or xs i d)) xs)
range-at [] i k d rises first short = absurd (omega (arith, short))
range-at (x ∷ xs) i zero d rises first short = absurd (omega (arith, first))
range-at (x ∷ xs) zero (suc k) d (later, rises) first short =
    let n = count (below x) xs in
    front-at x xs k d later rises (omega (arith, short))
    ∙ shift k n (suc zero + n) (omega arith)
    ∙ sym (ap (λ b. nat_lt (suc k) (suc zero + cond b (1 + n) n)) (not_below x))
range-at (x ∷ xs) (suc i) (suc k) d (later, rises) first short =
    let p = get_or xs i d in
    let n = count (below p) xs in
    let outside : below p x ≡ false = and_left _ _ (outside-first x p (later_at x xs i d later (omega (arith, first, short)))) in
    range-at xs i k d rises (omega (arith, first)) (omega (arith, short))
    ∙ shift k (suc i + n) (suc (suc i) + n) (omega arith)
    ∙ sym (ap (λ b. nat_lt (suc k) (suc (suc i) + cond b (1 + n) n)) outside)

-- ---- of the cgroups of a tree

module _ (st : State) (i : ℕ) (short : i < length (paths_of st)) where
  abbrev at : Names
  at = get_or (paths_of st) i []

  -- a cgroup's end is within the list
  pub end-within : i + 1 + count_below st at ≤ length (paths_of st)
  end-within =
      let within = ends-within (paths_of st) i [] (paths-rise st) short in
      let same = counted (below at) (paths_of st) in
      omega (arith, within, same)

  pub counted-below : (test : Names → Bool)
      → count_by (λ q. below at q && test q) (paths_of st) + count_by test (take (i + 1) (paths_of st))
      ≡ count_by test (take (i + 1 + count_below st at) (paths_of st))
  counted-below test =
      let P = paths_of st in
      let both = range test P i [] (paths-rise st) short in
      let some = counted (λ q. below at q && test q) P in
      let front : count test (take (suc i) P) ≡ count_by test (take (i + 1) P) =
      counted test (take (suc i) P) ∙ ap (λ n. count_by test (take n P)) (let e : suc i ≡ i + 1 = omega arith in e) in
      let end : suc i + count (below at) P ≡ i + 1 + count_below st at = (let same = counted (below at) P in omega (arith, same)) in
      let whole : count test (take (suc i + count (below at) P) P) ≡ count_by test (take (i + 1 + count_below st at) P) =
      counted test (take (suc i + count (below at) P) P) ∙ ap (λ n. count_by test (take n P)) end in
      omega (arith, both, some, front, whole)

  pub any-below : (test : Names → Bool)
      → any_below st at test
      ≡ nat_lt (count_by test (take (i + 1) (paths_of st))) (count_by test (take (i + 1 + count_below st at) (paths_of st)))
  any-below test =
      let sum = counted-below test in
      let some = counted (λ q. below at q && test q) (paths_of st) in
      any-counted (λ q. below at q && test q) (paths_of st)
      ∙ more (count (λ q. below at q && test q) (paths_of st)) _ _ (omega (arith, sum, some))
    where
      more : (m n k : ℕ) → m + n ≡ k → nat_lt 0 m ≡ nat_lt n k
      more m n k h =
          ⊎_elim (λ some. lt-ltb 0 m some ∙ sym (lt-ltb n k (omega (arith, h, some))))
          (λ none. le-ltb 0 m none ∙ sym (le-ltb n k (omega (arith, h, none)))) (cases_lt 0 m)

  -- one behind it is below it up to its end
  pub below-until : (k : ℕ) → i < k → k < length (paths_of st)
      → below at (get_or (paths_of st) k []) ≡ nat_lt k (i + 1 + count_below st at)
  below-until k first within =
      range-at (paths_of st) i k [] (paths-rise st) first within
      ∙ ap (nat_lt k) (let e : suc i + count (below at) (paths_of st) ≡ i + 1 + count_below st at =
      (let same = counted (below at) (paths_of st) in omega (arith, same)) in e)

  pub row-at : has_row st at ≡ true
  row-at =
      let found = any-row st (same_path at) (any-at (paths_of st) i (same_path_refl at) short) in
      ap (has_row st) (same_path-is at found.0 found.2) ∙ found.1
    where
      any-at : (xs : List Names) (k : ℕ) → same_path at (get_or xs k []) ≡ true → k < length xs → list_any (same_path at) xs ≡ true
      any-at [] k h few = absurd (omega (arith, few))
      any-at (x ∷ xs) zero h few = or_left _ _ h
      any-at (x ∷ xs) (suc k) h few = or_right _ _ (any-at xs k h (omega (arith, few)))

-- one behind another isn't above it
pub not-below-later : (st : State) (i k : ℕ) → i < k → k < length (paths_of st)
    → below (get_or (paths_of st) k []) (get_or (paths_of st) i []) ≡ false
not-below-later st i k first within =
    and_left _ _ (outside-first (get_or (paths_of st) i []) (get_or (paths_of st) k [])
    (in_order (paths_of st) i k (paths-rise st) first within))
  where
    in_order : (xs : List Names) (i k : ℕ) → Rising xs → i < k → k < length xs → path_cmp (get_or xs i []) (get_or xs k []) ≡ Less
    in_order [] i k rises first within = absurd (omega (arith, within))
    in_order (x ∷ xs) i zero rises first within = absurd (omega (arith, first))
    in_order (x ∷ xs) zero (suc k) (later, rises) first within = later_at x xs k [] later (omega (arith, within))
    in_order (x ∷ xs) (suc i) (suc k) (later, rises) first within = in_order xs i k rises (omega (arith, first)) (omega (arith, within))

pub below-itself : (p : Names) → below p p ≡ false
below-itself = not_below
