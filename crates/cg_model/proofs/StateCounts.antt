-- What each change does to the paths, the counts and the tests of a state.
use Rattle.std.proofs.Common.{◌≡◌, ℕ, ◌+◌, ◌-◌, max, Bool, true, false, cond, List, [], ◌∷◌, length, map, refl, sym, ap, ◌∙◌, Some, fold, filter, count_by, arith}
use Rattle.std.specs.List.{list_any}
use Rattle.std.specs.FinMap as finite
use Rattle.std.proofs.lemmas.List.Recursion.{is_count_by}
use Rattle.cg_cgroup.specs.Paths.{Names, below, is_child}
use Rattle.cg_cgroup.specs.Identity.{Identity}
use Rattle.cg_cgroup.specs.Cgroups.{with_value_in, with_mode_in}
use Rattle.cg_model.specs.States.{State, row_at, paths_of, has_child, count_below, depth_below, enabling, with_row, without_row, with_value, with_mode, with_enabled}
use Rattle.cg_model.specs.WellFormed.{has_row}
use Rattle.cg_cgroup.specs.declared.value.Value.{Value}
use Rattle.cg_cgroup.specs.declared.controllers.ControllerSet.{ControllerSet}
use Rattle.cg_cgroup.specs.declared.files.LimitFile.{LimitFile}
use Rattle.cg_cgroup.specs.declared.files.EntryName.{EntryName}
use Rattle.cg_cgroup.specs.declared.cgroup.Cgroup.{Cgroup}
use Rattle.cg_cgroup.proofs.Options.{none_value}
use Rattle.cg_cgroup.proofs.PathOrder.{path_cmp_total, path_cmp-IsAntisymmetric}
use Rattle.cg_model.proofs.MapLaws.{keys-changed, keys-change_value}
use Rattle.cg_model.proofs.MapFolds.{gathered, Commutes, gathered-insert, gathered-remove}

-- ---- the same paths and PIDs

pub paths_of-with_value : (st : State) (p : Names) (file : LimitFile) (value : Value) → paths_of (with_value st p file value) ≡ paths_of st
paths_of-with_value st p file value = keys-change_value path_cmp_total st.rows p (with_value_in file value)

pub paths_of-with_mode : (st : State) (p : Names) (name : EntryName) (mode : ℕ) → paths_of (with_mode st p name mode) ≡ paths_of st
paths_of-with_mode st p name mode = keys-change_value path_cmp_total st.rows p (with_mode_in name mode)

pub paths_of-with_enabled : (st : State) (p : Names) (enabled : ControllerSet) (user : Identity)
    → paths_of (with_enabled st p enabled user) ≡ paths_of st
paths_of-with_enabled st p enabled user = keys-changed (enabling p enabled user) st.rows

-- what goes by the paths alone
module _ (st new : State) (same : paths_of new ≡ paths_of st) (q : Names) where
  pub count_below-same_paths : count_below new q ≡ count_below st q
  count_below-same_paths = ap (count_by (below q)) same

  pub depth_below-same_paths : depth_below new q ≡ depth_below st q
  depth_below-same_paths = ap (λ paths. fold max 0 (map (λ x. length x - length q) (filter (below q) paths))) same

  pub has_child-same_paths : has_child new q ≡ has_child st q
  has_child-same_paths = ap (list_any (is_child q)) same

-- ---- counts from the front

pub gathered-map : {A B C : Type 0} (step : B → C → C) (start : C) (g : A → B) (xs : List A)
    → gathered step start (map g xs) ≡ gathered (λ x. step (g x)) start xs
gathered-map step start g [] = refl
gathered-map step start g (x ∷ xs) = ap (step (g x)) (gathered-map step start g xs)

-- one more where the test passes
abbrev pub one_more : {A : Type 0} → (A → Bool) → A → ℕ → ℕ
one_more p x n = cond (p x) (1 + n) n

pub one_more-Commutes : {A : Type 0} (p : A → Bool) → Commutes (one_more p)
one_more-Commutes p x y n = swapped (p x) (p y)
  where
    swapped : (a b : Bool) → cond a (1 + cond b (1 + n) n) (cond b (1 + n) n) ≡ cond b (1 + cond a (1 + n) n) (cond a (1 + n) n)
    swapped true true = refl
    swapped true false = refl
    swapped false true = refl
    swapped false false = refl

-- the greater of two where the test passes
abbrev greater : {A : Type 0} → (A → Bool) → (A → ℕ) → A → ℕ → ℕ
greater p f x n = cond (p x) (max n (f x)) n

greater-Commutes : {A : Type 0} (p : A → Bool) (f : A → ℕ) → Commutes (greater p f)
greater-Commutes p f x y n = swapped (p x) (p y)
  where
    swapped : (a b : Bool)
        → cond a (max (cond b (max n (f y)) n) (f x)) (cond b (max n (f y)) n)
        ≡ cond b (max (cond a (max n (f x)) n) (f y)) (cond a (max n (f x)) n)
    swapped true true = omega arith
    swapped true false = refl
    swapped false true = refl
    swapped false false = refl

gathered-greater : {A : Type 0} (p : A → Bool) (f : A → ℕ) (xs : List A) → gathered (greater p f) 0 xs ≡ fold max 0 (map f (filter p xs))
gathered-greater p f [] = refl
gathered-greater p f (x ∷ xs) =
    ap (λ n. cond (p x) (max n (f x)) n) (gathered-greater p f xs)
    ∙ elim (p x) as (λ b. cond b (max (fold max 0 (map f (filter p xs))) (f x)) (fold max 0 (map f (filter p xs)))
    ≡ fold max 0 (map f (cond b (x ∷ filter p xs) (filter p xs)))) [
      | true ↦ omega (arith, fold_max (max 0 (f x)) (map f (filter p xs)))
      | false ↦ refl
    ]
  where
    fold_max : (a : ℕ) (ns : List ℕ) → fold max a ns ≡ max (fold max 0 ns) a
    fold_max a [] = omega arith
    fold_max a (n ∷ ns) = omega (arith, fold_max (max a n) ns, fold_max (max 0 n) ns)

-- ---- the counts of a tree

count_from_front : (st : State) (test : Names → Bool)
    → gathered (λ e. one_more test e.0) 0 (finite.entries st.rows) ≡ count_by test (paths_of st)
count_from_front st test =
    sym (gathered-map (one_more test) 0 (λ e. e.0) (finite.entries st.rows))
    ∙ is_count_by (gathered (one_more test) 0) test refl (λ x xs. refl) (paths_of st)

depth_from_front : (st : State) (q : Names)
    → gathered (λ e. greater (below q) (λ x. length x - length q) e.0) 0 (finite.entries st.rows) ≡ depth_below st q
depth_from_front st q =
    sym (gathered-map (greater (below q) (λ x. length x - length q)) 0 (λ e. e.0) (finite.entries st.rows))
    ∙ gathered-greater (below q) (λ x. length x - length q) (paths_of st)

-- ---- making a cgroup adds one below each cgroup that it is below

module _ (st : State) (p : Names) (row : Cgroup) (absent : has_row st p ≡ false) where
  -- of those that pass a test
  pub counted-with_row : (test : Names → Bool)
      → count_by test (paths_of (with_row st p row)) ≡ one_more test p (count_by test (paths_of st))
  counted-with_row test =
      sym (count_from_front (with_row st p row) test)
      ∙ gathered-insert path_cmp_total (λ e. one_more test e.0) 0 (λ x y. one_more-Commutes test x.0 y.0) st.rows p row
      (none_value _ absent)
      ∙ ap (one_more test p) (count_from_front st test)

  pub count_below-with_row : (q : Names) → count_below (with_row st p row) q ≡ cond (below q p) (1 + count_below st q) (count_below st q)
  count_below-with_row q = counted-with_row (below q)

  pub depth_below-with_row : (q : Names)
      → depth_below (with_row st p row) q ≡ cond (below q p) (max (depth_below st q) (length p - length q)) (depth_below st q)
  depth_below-with_row q =
      sym (depth_from_front (with_row st p row) q)
      ∙ gathered-insert path_cmp_total (λ e. greater (below q) (λ x. length x - length q) e.0) 0
      (λ x y. greater-Commutes (below q) (λ x. length x - length q) x.0 y.0) st.rows p row (none_value _ absent)
      ∙ ap (greater (below q) (λ x. length x - length q) p) (depth_from_front st q)

-- ---- removing one takes it

module _ (st : State) (p : Names) (row : Cgroup) (there : row_at st p ≡ Some row) where
  pub counted-without_row : (test : Names → Bool)
      → count_by test (paths_of st) ≡ one_more test p (count_by test (paths_of (without_row st p)))
  counted-without_row test =
      sym (count_from_front st test)
      ∙ gathered-remove path_cmp_total (λ e. one_more test e.0) 0 (λ x y. one_more-Commutes test x.0 y.0) path_cmp-IsAntisymmetric
      st.rows p row there
      ∙ ap (one_more test p) (count_from_front (without_row st p) test)

  pub count_below-without_row : (q : Names)
      → count_below st q ≡ cond (below q p) (1 + count_below (without_row st p) q) (count_below (without_row st p) q)
  count_below-without_row q = counted-without_row (below q)

  pub depth_below-without_row : (q : Names)
      → depth_below st q
      ≡ cond (below q p) (max (depth_below (without_row st p) q) (length p - length q)) (depth_below (without_row st p) q)
  depth_below-without_row q =
      sym (depth_from_front st q)
      ∙ gathered-remove path_cmp_total (λ e. greater (below q) (λ x. length x - length q) e.0) 0
      (λ x y. greater-Commutes (below q) (λ x. length x - length q) x.0 y.0) path_cmp-IsAntisymmetric st.rows p row there
      ∙ ap (greater (below q) (λ x. length x - length q) p) (depth_from_front (without_row st p) q)
