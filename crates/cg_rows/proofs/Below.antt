-- What lies below a path stands together, right after it, in a list of entries that rise.
use Rattle.std.proofs.Common.{◌≡◌, ℕ, zero, suc, ◌+◌, ◌-◌, ◌<◌, ◌≤◌, Bool, true, false, cond, ◌&&◌, ◌||◌, List, [], ◌∷◌, ◌++◌, length, take, drop, get_or, map as map_list, count_by, fold, max, refl, sym, ap, subst, ◌∙◌, arith, inl, inr}
use Rattle.std.proofs.lemmas.Bool.{and_parts, and_from, and_left, and_right, cases_Bool, true≢false, lt-ltb, le-ltb, eqb-true}
use Rattle.std.proofs.lemmas.List.{get_or-drop, length-drop, length-map, take_rest}
use Rattle.std.proofs.lemmas.List.Sums.{length-filter}
use Rattle.std.proofs.Math.Nat.{eq-or-lt_of_le}
use Rattle.std.specs.List.{AllWithin, filter, list_any}
use Rattle.std.specs.List.Sorted.{IsPartitionPoint, IsPartitionedBy}
use Rattle.std.specs.declared.cmp.Ordering.{Ordering}
use Rattle.std.specs.declared.cmp.Ordering.TheVariants.{Less, Equal, Greater}
use Rattle.std.specs.Ordering.{nat_cmp, is_eq, is_lt, is_gt, ordering_then, ordering_reverse}
use Rattle.std.specs.Cmp.{IsTotalOrder, tied_itself, alike_right, Equal-is}
use Rattle.std.specs.Cmp.Lexicographic.{slice_cmp, nat_list_cmp_total, texts_ties}
use Rattle.std.specs.FinMap as map
use Rattle.std.specs.FinMap.{is_sorted, nat_cmp-IsAntisymmetric, slice_cmp-IsAntisymmetric}
use Rattle.cg_cgroup.specs.Paths.{Name, Names, path_cmp, same_name, inside, below, is_child}
use borrow.Rule.Slice.PartMut.{put_mid}
use Rattle.cg_rows.specs.Places.{IsPlace, IsGap, IsRange}
use Rattle.cg_model.proofs.MapLaws.{list_any-map}
use Rattle.cg_cgroup.proofs.PathOrder.{path_cmp_total, path_cmp-IsAntisymmetric}
use Rattle.cg_rows.proofs.Sorted.{rises, shown_entries}

-- ---- one path and another

abbrev name_cmp : Name → Name → Ordering
name_cmp = slice_cmp nat_cmp

is_equal : (r : Ordering) → is_eq r ≡ true → r ≡ Equal
is_equal r e = (Equal-is r).0 e

same_name-other : (a b : Name) (r : Ordering) → name_cmp a b ≡ r → is_eq r ≡ false → same_name a b ≡ false
same_name-other a b r e n = texts_ties a b ∙ ap is_eq e ∙ n

same_name-is : (a b : Name) → same_name a b ≡ true → a ≡ b
same_name-is a b e = slice_cmp-IsAntisymmetric nat_cmp-IsAntisymmetric a b (is_equal _ (sym (texts_ties a b) ∙ e))

same_name_tied : (a b : Name) → name_cmp a b ≡ Equal → same_name a b ≡ true
same_name_tied a b e = texts_ties a b ∙ ap is_eq e

not_less : {P : Type 0} (r : Ordering) → r ≡ Less → is_lt r ≡ false → P
not_less r e n = absurd (true≢false (sym (ap is_lt e) ∙ n))

turned : (a b : Name) (r : Ordering) → name_cmp a b ≡ r → name_cmp b a ≡ ordering_reverse r
turned a b r e = nat_list_cmp_total.antisymm b a ∙ ap ordering_reverse e

-- what comes before a path isn't inside it
pub outside_before : (p x : Names) → path_cmp x p ≡ Less → inside p x ≡ false
outside_before [] [] e = not_less Equal e refl
outside_before [] (m ∷ ms) e = not_less Greater e refl
outside_before (n ∷ ns) [] e = refl
outside_before (n ∷ ns) (m ∷ ms) e =
    elim (name_cmp m n) as (λ r. name_cmp m n ≡ r → ordering_then r (path_cmp ms ns) ≡ Less → inside (n ∷ ns) (m ∷ ms) ≡ false) [
      | Less ↦ λ c _. and_left _ _ (same_name-other n m Greater (turned m n Less c) refl)
      | Equal ↦ λ c rest. and_right _ _ (outside_before ns ms rest)
      | Greater ↦ λ c rest. not_less Greater rest refl
    ] refl e

-- what is inside a path and comes after it has more names
inside_longer : (p x : Names) → path_cmp p x ≡ Less → inside p x ≡ true → length p < length x
inside_longer [] [] e h = not_less Equal e refl
inside_longer [] (m ∷ ms) e h = omega arith
inside_longer (n ∷ ns) [] e h = not_less Greater e refl
inside_longer (n ∷ ns) (m ∷ ms) e h =
    let parts = and_parts _ _ h in
    let same = same_name-is n m parts.0 in
    let tie : name_cmp n m ≡ Equal = ap (name_cmp n) (sym same) ∙ tied_itself nat_list_cmp_total n in
    let more = inside_longer ns ms (sym (ap (λ r. ordering_then r (path_cmp ns ms)) tie) ∙ e) parts.1 in
    omega arith

pub below_after : (p x : Names) → path_cmp p x ≡ Less → inside p x ≡ below p x
below_after p x e =
    elim (cases_Bool (inside p x)) [
      | inl h ↦ h ∙ sym (and_from _ _ h (lt-ltb _ _ (inside_longer p x e h)))
      | inr h ↦ h ∙ sym (and_left _ _ h)
    ]

not_longer : (p x : Names) → length p ≡ length x → below p x ≡ false
not_longer p x e = and_right _ _ (le-ltb (length p) (length x) (omega arith))

pub outside_until : (p x : Names) → is_gt (path_cmp x p) ≡ false → below p x ≡ false
outside_until p x g =
    elim (path_cmp x p) as (λ r. path_cmp x p ≡ r → is_gt r ≡ false → below p x ≡ false) [
      | Less ↦ λ c _. and_left _ _ (outside_before p x c)
      | Equal ↦ λ c _. not_longer p x (ap length (sym (path_cmp-IsAntisymmetric x p c)))
      | Greater ↦ λ c h. absurd (true≢false h)
    ] refl g

-- between a path and what is inside it all is inside it
pub between : (p x y : Names) → path_cmp p x ≡ Less → path_cmp x y ≡ Less → inside p y ≡ true → inside p x ≡ true
between [] x y e f h = refl
between (n ∷ ns) [] y e f h = not_less Greater e refl
between (n ∷ ns) (m ∷ ms) [] e f h = absurd (true≢false (sym h))
between (n ∷ ns) (m ∷ ms) (k ∷ ks) e f h =
    let parts = and_parts _ _ h in
    let same = same_name-is n k parts.0 in
    elim (name_cmp n m) as (λ r. name_cmp n m ≡ r → ordering_then r (path_cmp ns ms) ≡ Less → inside (n ∷ ns) (m ∷ ms) ≡ true) [
      | Less ↦
          λ c _. not_less _ (sym (ap (λ r. ordering_then r (path_cmp ms ks)) (ap (name_cmp m) (sym same) ∙ turned n m Less c)) ∙ f) refl
      | Equal ↦ λ c rest.
          let back = ap (name_cmp m) (sym same) ∙ turned n m Equal c in
          and_from _ _ (same_name_tied n m c) (between ns ms ks rest (sym (ap (λ r. ordering_then r (path_cmp ms ks)) back) ∙ f) parts.1)
      | Greater ↦ λ c rest. not_less Greater rest refl
    ] refl e

-- ---- a list whose elements pass a test from one place up to another

module _ {X : Type 0} (test : X → Bool) where
  skip : (x : X) (xs : List X) → test x ≡ false → filter test (x ∷ xs) ≡ filter test xs
  skip x xs e = ap (λ b. cond b (x ∷ filter test xs) (filter test xs)) e

  keep : (x : X) (xs ys : List X) → test x ≡ true → filter test xs ≡ ys → filter test (x ∷ xs) ≡ x ∷ ys
  keep x xs ys e rest = ap (λ b. cond b (x ∷ filter test xs) (filter test xs)) e ∙ ap (λ zs. x ∷ zs) rest

  filter_late : (xs : List X) (i : ℕ) → AllWithin (λ x. test x ≡ false) xs 0 i → i ≤ length xs → filter test xs ≡ filter test (drop i xs)
  filter_late xs zero none l = refl
  filter_late [] (suc i) none l = refl
  filter_late (x ∷ xs) (suc i) none l =
      skip x xs (none 0 x (omega arith) (omega arith))
      ∙ filter_late xs i (λ k d _ m. none (suc k) d (omega arith) (omega arith)) (omega arith)

  filter_early : (xs : List X) (n : ℕ) → IsPartitionPoint (λ x. test x ≡ true) (λ x. test x ≡ false) xs n → filter test xs ≡ take n xs
  filter_early [] zero parted = refl
  filter_early [] (suc n) parted = refl
  filter_early (x ∷ xs) zero parted =
      skip x xs (parted.1 0 x (omega arith) (omega arith))
      ∙ filter_early xs zero (λ k d _ m. absurd (omega arith), λ k d _ m. parted.1 (suc k) d (omega arith) (omega arith))
  filter_early (x ∷ xs) (suc n) parted =
      keep x xs _ (parted.0 0 x (omega arith) (omega arith))
      (filter_early xs n
      (λ k d _ m. parted.0 (suc k) d (omega arith) (omega arith), λ k d l m. parted.1 (suc k) d (omega arith) (omega arith)))

  module _ (f : X → X) (same : (x : X) → test x ≡ false → f x ≡ x) where
    map_late : (xs : List X) (i : ℕ) → AllWithin (λ x. test x ≡ false) xs 0 i → map_list f xs ≡ take i xs ++ map_list f (drop i xs)
    map_late xs zero none = refl
    map_late [] (suc i) none = refl
    map_late (x ∷ xs) (suc i) none =
        λ k. same x (none 0 x (omega arith) (omega arith)) k
        ∷ map_late xs i (λ k d _ m. none (suc k) d (omega arith) (omega arith)) k

    map_early : (xs : List X) (n : ℕ) → AllWithin (λ x. test x ≡ false) xs n (length xs)
        → map_list f xs ≡ map_list f (take n xs) ++ drop n xs
    map_early [] zero none = refl
    map_early [] (suc n) none = refl
    map_early (x ∷ xs) zero none =
        λ k. same x (none 0 x (omega arith) (omega arith)) k
        ∷ map_early xs zero (λ k d _ m. none (suc k) d (omega arith) (omega arith)) k
    map_early (x ∷ xs) (suc n) none =
        ap (λ ys. f x ∷ ys) (map_early xs n (λ k d l m. none (suc k) d (omega arith) (omega arith)))

  -- a narrower test finds as much in what passes the test
  pub any_filtered : (narrow : X → Bool) → ((x : X) → narrow x ≡ true → test x ≡ true) → (xs : List X)
      → list_any narrow (filter test xs) ≡ list_any narrow xs
  any_filtered narrow implies [] = refl
  any_filtered narrow implies (x ∷ xs) =
      elim (test x) as
      (λ b. test x ≡ b → list_any narrow (cond b (x ∷ filter test xs) (filter test xs)) ≡ (narrow x || list_any narrow xs)) [
        | true ↦ λ _. ap (λ b. narrow x || b) (any_filtered narrow implies xs)
        | false ↦ λ e. any_filtered narrow implies xs ∙ sym (ap (λ b. b || list_any narrow xs) (unless narrow implies x e))
      ] refl
    where
      unless : (narrow : X → Bool) → ((x : X) → narrow x ≡ true → test x ≡ true) → (x : X) → test x ≡ false → narrow x ≡ false
      unless narrow implies x e = elim (cases_Bool (narrow x)) [ inl h ↦ absurd (true≢false (sym (implies x h) ∙ e)) | inr h ↦ h ]

-- ---- a range of the entries whose keys pass a test

module _ {K X : Type 0} (test : K → Bool) (es : List (K × X)) (i j : ℕ) (range : IsRange test es i j) where
  range_parted : IsPartitionPoint (λ e. test e.0 ≡ true) (λ e. test e.0 ≡ false) (drop i es) (j - i)
  range_parted = (
    λ k d l m. subst (λ (e : K × X). test e.0 ≡ true) (sym (get_or-drop i es k d))
        (range.between (i + k) d (omega arith) (omega arith)),
    λ k d l m. subst (λ (e : K × X). test e.0 ≡ false) (sym (get_or-drop i es k d))
        (range.after (i + k) d (omega (arith, range.ordered)) (omega (arith, length-drop i es))),
  )

  start_within : i ≤ length es
  start_within = omega (arith, range.ordered, range.within)

  pub filter_range : take (j - i) (drop i es) ≡ filter (λ e. test e.0) es
  filter_range =
      sym (filter_late (λ e. test e.0) es i range.before start_within ∙ filter_early (λ e. test e.0) (drop i es) (j - i) range_parted)

  -- to change the entries of the range is to change all, where the others stay the same
  pub map_range : (f : K × X → K × X) → ((e : K × X) → test e.0 ≡ false → f e ≡ e)
      → put_mid i (j - i) es (map_list f (take (j - i) (drop i es))) ≡ map_list f es
  map_range f same =
      sym (map_late (λ e. test e.0) f same es i range.before
      ∙ ap (λ fs. take i es ++ fs) (map_early (λ e. test e.0) f same (drop i es) (j - i) range_parted.1))

-- ---- where what lies after a key begins

module _ {K X : Type 0} {R : K → K → Ordering} (o : IsTotalOrder R) where
  -- the entries before i have keys up to q, and all others have keys above it
  abbrev pub IsStart : K → List (K × X) → ℕ → Type 0
  IsStart q es i = (i ≤ length es) × AllWithin (λ e. is_gt (R e.0 q) ≡ false) es 0 i × AllWithin (λ e. R q e.0 ≡ Less) es i (length es)

  pub start_after : (q : K) (es : List (K × X)) (i : ℕ) → is_sorted R es ≡ true → IsPlace R q es i → IsStart q es (i + 1)
  start_after q es i s at = (
    omega arith,
    λ k d _ l. elim (eq-or-lt_of_le (at_most l)) [
      | inl e ↦ ap is_gt (subst (λ j. R (get_or es j d).0 q ≡ Equal) (sym e) (at.1 d))
      | inr m ↦ ap is_gt (sym (alike_right o _ q (get_or es k d).0 (at.1 d)) ∙ rises o es k i d s m at.0)
    ],
    λ k d l m. sym (o.congr _ q (get_or es k d).0 (at.1 d)) ∙ rises o es i k d s (omega arith) m,
  )
    where
      at_most : {k i : ℕ} → k < i + 1 → k ≤ i
      at_most {k} {i} l = omega arith

  pub start_gap : (q : K) (es : List (K × X)) (i : ℕ) → IsGap R q es i → IsStart q es i
  start_gap q es i gap = (
    gap.0,
    λ k d l m. ap is_gt (gap.1.0 k d l m),
    λ k d l m. o.antisymm q _ ∙ ap ordering_reverse (gap.1.1 k d l m),
  )

module _ {X : Type 0} where
  -- a binary search for the end of what is inside p is right
  pub inside_parted : (p : Names) (es : List (Names × X)) (i : ℕ) → is_sorted path_cmp es ≡ true → IsStart path_cmp_total p es i
      → IsPartitionedBy (λ e. inside p e.0) (drop i es)
  inside_parted p es i s start j k d l m h =
      elim (eq-or-lt_of_le l) [
        | inl e ↦ subst (λ n. inside p (get_or (drop i es) n d).0 ≡ true) (sym e) h
        | inr lt ↦
            let bound : k < length es - i = subst (λ n. k < n) (length-drop i es) m in
            subst (λ (e : Names × X). inside p e.0 ≡ true) (sym (get_or-drop i es j d))
            (between p _ (get_or es (i + k) d).0
            (start.2 (i + j) d (omega arith) (omega arith))
            (rises path_cmp_total es (i + j) (i + k) d s (omega arith) (omega arith))
            (subst (λ (e : Names × X). inside p e.0 ≡ true) (get_or-drop i es k d) h))
      ]

  range_of : (p : Names) (es : List (Names × X)) (i n : ℕ) → IsStart path_cmp_total p es i → n ≤ length (drop i es)
      → IsPartitionPoint (λ e. inside p e.0 ≡ true) (λ e. inside p e.0 ≡ false) (drop i es) n
      → IsRange (below p) es i (i + n)
  range_of p es i n start bound parted = record {
    ordered = omega arith;
    within = omega (arith, length-drop i es);
    before = λ k d l m. outside_until p _ (start.1 k d l m);
    between = λ k d l m.
        sym (below_after p _ (start.2 k d l (omega (arith, length-drop i es))))
        ∙ subst (λ (e : Names × X). inside p e.0 ≡ true) (same k d l) (parted.0 (k - i) d (omega arith) (omega arith));
    after = λ k d l m.
        sym (below_after p _ (start.2 k d (omega arith) m))
        ∙ subst (λ (e : Names × X). inside p e.0 ≡ false) (same k d (omega arith))
        (parted.1 (k - i) d (omega arith) (omega (arith, length-drop i es)));
  }
    where
      same : (k : ℕ) (d : Names × X) → i ≤ k → get_or (drop i es) (k - i) d ≡ get_or es k d
      same k d l = let e : i + (k - i) ≡ k = omega arith in get_or-drop i es (k - i) d ∙ ap (λ j. get_or es j d) e

  -- a binary search for the end of what is below p is right
  pub range_found : (p : Names) (es : List (Names × X)) (i n : ℕ) → is_sorted path_cmp es ≡ true → IsStart path_cmp_total p es i
      → n ≤ length (take (length es - i) (drop i es))
      → (IsPartitionedBy (λ e. inside p e.0) (take (length es - i) (drop i es))
      → IsPartitionPoint (λ e. inside p e.0 ≡ true) (λ e. inside p e.0 ≡ false) (take (length es - i) (drop i es)) n)
      → IsRange (below p) es i (i + n)
  range_found p es i n s start bound parts =
      let rest : take (length es - i) (drop i es) ≡ drop i es = take_rest es i in
      range_of p es i n start (subst (λ (gs : List (Names × X)). n ≤ length gs) rest bound)
      (subst (λ (gs : List (Names × X)). IsPartitionPoint (λ e. inside p e.0 ≡ true) (λ e. inside p e.0 ≡ false) gs n) rest
      (parts (subst (λ (gs : List (Names × X)). IsPartitionedBy (λ e. inside p e.0) gs) (sym rest) (inside_parted p es i s start))))

  pub start_of_place : (p : Names) (es fs : List (Names × X)) (i j : ℕ) → is_sorted path_cmp es ≡ true → fs ≡ es → IsPlace path_cmp p fs i
      → j ≡ i + 1 → IsStart path_cmp_total p es j
  start_of_place p es fs i j s same at e =
      subst (IsStart path_cmp_total p es) (sym e)
      (start_after path_cmp_total p es i s (subst (λ (gs : List (Names × X)). IsPlace path_cmp p gs i) same at))

  pub start_of_gap : (p : Names) (es fs : List (Names × X)) (i j : ℕ) → fs ≡ es → IsGap path_cmp p fs i → j ≡ i
      → IsStart path_cmp_total p es j
  start_of_gap p es fs i j same gap e =
      subst (IsStart path_cmp_total p es) (sym e)
      (start_gap path_cmp_total p es i (subst (λ (gs : List (Names × X)). IsGap path_cmp p gs i) same gap))

pub inside_within : (p x : Names) → inside p x ≡ true → length p ≤ length x
inside_within [] x h = omega arith
inside_within (n ∷ ns) [] h = absurd (true≢false (sym h))
inside_within (n ∷ ns) (m ∷ ms) h = let rest : length ns ≤ length ms = inside_within ns ms (and_parts _ _ h).1 in omega arith

child_below : (p x : Names) → is_child p x ≡ true → below p x ≡ true
child_below p x h =
    let parts = and_parts _ _ h in
    and_from _ _ parts.0 (lt-ltb (length p) (length x) (omega (arith, eqb-true _ _ parts.1)))

child_outside : (p x : Names) → below p x ≡ false → is_child p x ≡ false
child_outside p x e =
    elim (cases_Bool (is_child p x)) [ inl h ↦ absurd (true≢false (sym (child_below p x h) ∙ e)) | inr h ↦ h ]

-- ---- the range of what lies below a path

module _ {X : Type 0} (p : Names) (es fs : List (Names × X)) (i j : ℕ) (same : fs ≡ es) (range : IsRange (below p) fs i j) where
  fitting : IsRange (below p) es i j
  fitting = subst (λ (hs : List (Names × X)). IsRange (below p) hs i j) same range

  pub entries_below : {m : map.FinMap path_cmp X} (gs : List (Names × X)) → map.from_sorted es ≡ m → is_sorted path_cmp es ≡ true → gs ≡ es
      → take (j - i) (drop i gs) ≡ filter (λ e. below p e.0) (map.entries m)
  entries_below gs shows s here =
      ap (λ hs. take (j - i) (drop i hs)) here ∙ filter_range (below p) es i j fitting
      ∙ ap (filter (λ e. below p e.0)) (shown_entries path_cmp_total es es shows s refl)

  -- to change the children in the range is to change all
  pub children_changed : (f : X → X)
      → put_mid i (j - i) es (map_list (λ e. (e.0, cond (is_child p e.0) (f e.1) e.1)) (take (j - i) (drop i es)))
      ≡ map_list (λ e. (e.0, cond (is_child p e.0) (f e.1) e.1)) es
  children_changed f =
      map_range (below p) es i j fitting (λ e. (e.0, cond (is_child p e.0) (f e.1) e.1))
      (λ e h. ap (λ b. (e.0, cond b (f e.1) e.1)) (child_outside p e.0 h))

-- ---- the questions about what lies below a path

module _ {X : Type 0} (m : map.FinMap path_cmp X) where
  pub any_below : (p : Names) (test : Names × X → Bool) (es : List (Names × X)) (r : Bool) → es ≡ filter (λ e. below p e.0) (map.entries m)
      → r ≡ list_any (λ e. is_child p e.0 && test e) es
      → r ≡ list_any (λ e. is_child p e.0 && test e) (map.entries m)
  any_below p test es r found told =
      told ∙ ap (list_any (λ e. is_child p e.0 && test e)) found
      ∙ any_filtered (λ e. below p e.0) (λ e. is_child p e.0 && test e) (λ e h. child_below p e.0 (and_parts _ _ h).0) (map.entries m)

  pub any_child_below : (p : Names) (es : List (Names × X)) (r : Bool) → es ≡ filter (λ e. below p e.0) (map.entries m)
      → r ≡ list_any (λ e. is_child p e.0) es → r ≡ list_any (is_child p) (map.keys m)
  any_child_below p es r found told =
      told ∙ ap (list_any (λ e. is_child p e.0)) found
      ∙ any_filtered (λ e. below p e.0) (λ e. is_child p e.0) (λ e h. child_below p e.0 h) (map.entries m)
      ∙ sym (list_any-map (is_child p) (λ e. e.0) (map.entries m))

  filter_keys : (test : Names → Bool) (es : List (Names × X))
      → filter test (map_list (λ e. e.0) es) ≡ map_list (λ e. e.0) (filter (λ e. test e.0) es)
  filter_keys test [] = refl
  filter_keys test (e ∷ es) =
      elim (test e.0) as (λ b. cond b (e.0 ∷ filter test (map_list (λ e. e.0) es)) (filter test (map_list (λ e. e.0) es))
      ≡ map_list (λ e. e.0) (cond b (e ∷ filter (λ e. test e.0) es) (filter (λ e. test e.0) es))) [
        | true ↦ ap (λ ks. e.0 ∷ ks) (filter_keys test es)
        | false ↦ filter_keys test es
      ]

  pub count_found : (p : Names) (es : List (Names × X)) → es ≡ filter (λ e. below p e.0) (map.entries m)
      → length es ≡ count_by (below p) (map.keys m)
  count_found p es found =
      ap length found ∙ sym (length-map (filter (λ e. below p e.0) (map.entries m)) (λ e. e.0))
      ∙ ap length (sym (filter_keys (below p) (map.entries m))) ∙ length-filter (below p) (map.keys m)

  pub depth_found : (p : Names) (n : ℕ) (es : List (Names × X)) → es ≡ filter (λ e. below p e.0) (map.entries m) → n ≡ length p
      → fold max 0 (map_list (λ e. length e.0 - n) es) ≡ fold max 0 (map_list (λ q. length q - length p) (filter (below p) (map.keys m)))
  depth_found p n es found same =
      (λ i. fold max 0 (map_list (λ e. length e.0 - same i) (found i)))
      ∙ ap (fold max 0) (sym (map-map_keys (λ q. length q - length p) (filter (λ e. below p e.0) (map.entries m)))
      ∙ ap (map_list (λ q. length q - length p)) (sym (filter_keys (below p) (map.entries m))))
    where
      map-map_keys : (f : Names → ℕ) (es : List (Names × X)) → map_list f (map_list (λ e. e.0) es) ≡ map_list (λ e. f e.0) es
      map-map_keys f [] = refl
      map-map_keys f (e ∷ es) = ap (λ ns. f e.0 ∷ ns) (map-map_keys f es)
