-- Rows none of which has a fault, and rows none of whose keys comes twice.
use Rattle.std.proofs.Common.{◌≡◌, ℕ, ◌+◌, Bool, true, false, cond, List, [], ◌∷◌, ◌++◌, length, Option, Some, None, is_some, refl, sym, ap, ◌∙◌, true≢false, append_assoc, arith}
use Rattle.std.specs.Prelude.{find, count_by}
use Rattle.std.specs.Option.{option_or, option_to_list}
use Rattle.std.specs.List.{AllByRecursion, list_any}
use Rattle.std.proofs.lemmas.List.{append-nil}
use Rattle.std.proofs.lemmas.List.Folds.{find-append}
use Rattle.std.proofs.lemmas.List.Sums.{length-filter}
use Rattle.cg_cgroup.proofs.Options.{some_value, none_value, same_some}
use Rattle.cg_model.specs.Clauses.{absent}
use Rattle.cg_model.proofs.ClauseLaws.{no_parts, no_absent}
use Rattle.cg_format.specs.TextFaults.{each}
use Rattle.cg_format.specs.declared.fault.Place.{Place}
use Rattle.cg_format.specs.declared.fault.TreeFault.{TreeFault}
use Rattle.cg_format.proofs.Cuts.{head_of, is_some-find, any_filter, once_kept}

-- ---- clauses

-- of five lists of clauses none has one
pub five_none : {R : Type 0} (a b c d e : List R) → (((a ++ b) ++ c) ++ d) ++ e ≡ []
    → (a ≡ []) × (b ≡ []) × (c ≡ []) × (d ≡ []) × (e ≡ [])
five_none a b c d e none =
    let four = no_parts (((a ++ b) ++ c) ++ d) e none in
    let three = no_parts ((a ++ b) ++ c) d four.0 in
    let two = no_parts (a ++ b) c three.0 in
    let one = no_parts a b two.0 in
    (one.0, one.1, two.1, three.1, four.1)

pub absent_none : {A R : Type 0} (o : Option A) (fault : R) → absent o fault ≡ [] → (x : A) × (o ≡ Some x)
absent_none o fault none = some_value o (no_absent o fault none)

-- ---- rows in turn

-- what holds of each row behind those before it holds of all
pub all_rows : {A : Type 0} (P : A → Type 0) (before rest : List A)
    → ((front : List A) (row : A) (after : List A) → front ++ row ∷ after ≡ before ++ rest → P row) → AllByRecursion P rest
all_rows P before [] each = tt
all_rows P before (row ∷ rest) each = (
  each before row rest refl,
  all_rows P (before ++ row ∷ []) rest (λ front x after is. each front x after (is ∙ append_assoc before (row ∷ []) rest)),
)

module _ {A : Type 0} (clauses : List A → Place → A → List TreeFault) (place : ℕ → Place) where
  none_from : (i : ℕ) (earlier before : List A) (row : A) (after : List A) → each clauses place i earlier (before ++ row ∷ after) ≡ []
      → (at : Place) × (clauses (earlier ++ before) at row ≡ [])
  none_from i earlier [] row after none =
      (place i, ap (λ some. clauses some (place i) row) (append-nil earlier) ∙ (no_parts (clauses earlier (place i) row) _ none).0)
  none_from i earlier (x ∷ before) row after none =
      let found = none_from (i + 1) (earlier ++ x ∷ []) before row after (no_parts (clauses earlier (place i) x) _ none).1 in
      (found.0, ap (λ some. clauses some found.0 row) (sym (append_assoc earlier (x ∷ []) before)) ∙ found.1)

  -- where no row has a fault, the clauses of each find none behind those before it
  pub none_at : (all : List A) → each clauses place 1 [] all ≡ [] → (before : List A) (row : A) (after : List A)
      → before ++ row ∷ after ≡ all → (at : Place) × (clauses before at row ≡ [])
  none_at all none before row after is = none_from 1 [] before row after (ap (each clauses place 1 []) is ∙ none)

  pub none_say : (P : A → Type 0) → ((earlier : List A) (at : Place) (row : A) → clauses earlier at row ≡ [] → P row) → (all : List A)
      → each clauses place 1 [] all ≡ [] → AllByRecursion P all
  none_say P says all none = all_rows P [] all (λ before row after is.
      let found = none_at all none before row after is in
      says before found.0 row found.1)

-- ---- the first row that passes a test

-- where a found row stands
pub record IsFoundAt {A : Type 0} (p : A → Bool) (all : List A) (row : A) : Type 0 where
  pub before : List A
  pub after : List A
  pub split : before ++ row ∷ after ≡ all
  pub passes : p row ≡ true

pub found_at : {A : Type 0} (p : A → Bool) (all : List A) (row : A) → find p all ≡ Some row → IsFoundAt p all row
found_at p [] row is = absurd (true≢false (sym (ap is_some is)))
found_at p (x ∷ all) row is =
    elim (p x) as (λ b. p x ≡ b → cond b (Some x) (find p all) ≡ Some row → IsFoundAt p (x ∷ all) row) [
      | true ↦ λ so found.
          let same : row ≡ x = sym (same_some x row found) in
          record { before = []; after = all; split = ap (λ y. y ∷ all) same; passes = ap p same ∙ so }
      | false ↦ λ _ found.
          let later = found_at p all row found in
          record { before = x ∷ later.before; after = later.after; split = ap (λ rest. x ∷ rest) later.split; passes = later.passes }
    ] refl is

pub find_past : {A : Type 0} (p : A → Bool) (before rest : List A) → list_any p before ≡ false → find p (before ++ rest) ≡ find p rest
find_past p before rest none =
    find-append p before rest
    ∙ ap (λ found. option_or found (find p rest)) (none_value (find p before) (is_some-find p before ∙ none))

-- ---- keys

module _ {A K : Type 0} (key : A → Option K) (same : K → K → Bool) where
  abbrev has : K → A → Bool
  has q row = elim (key row) [ None ↦ false | Some said ↦ same q said ]

  -- no row has the key of one before it
  pub record IsOnce (all : List A) : Type 0 where
    pub new : (before : List A) (row : A) (after : List A) → before ++ row ∷ after ≡ all → (q : K) → key row ≡ Some q
        → list_any (has q) before ≡ false

  module _ (alike : (a b : K) → same a b ≡ true → a ≡ b) (itself : (a : K) → same a a ≡ true) where
    pub key_had : (q : K) (row : A) → has q row ≡ true → key row ≡ Some q
    key_had q row so =
        elim (key row) as (λ o. elim o [ None ↦ false | Some said ↦ same q said ] ≡ true → o ≡ Some q) [
          | None ↦ λ so. absurd (true≢false (sym so))
          | Some said ↦ λ so. ap Some (sym (alike q said so))
        ] so

    pub has_key : (q : K) (row : A) → key row ≡ Some q → has q row ≡ true
    has_key q row is = ap (λ (o : Option K). elim o [ None ↦ false | Some said ↦ same q said ]) is ∙ itself q

    -- each row is found by its key
    pub once_found : (all : List A) → IsOnce all → (before : List A) (row : A) (after : List A) → before ++ row ∷ after ≡ all → (q : K)
        → key row ≡ Some q → find (has q) all ≡ Some row
    once_found all once before row after is q said =
        ap (find (has q)) (sym is) ∙ find_past (has q) before (row ∷ after) (once.new before row after is q said)
        ∙ ap (λ b. cond b (Some row) (find (has q) after)) (has_key q row said)

    count_head : (some : List A) → length (option_to_list (head_of some)) ≡ cond (is_some (head_of some)) 1 0
    count_head some = grind arith

    -- a key comes once, or not at all
    pub once_counted : (all : List A) → IsOnce all → (q : K) → count_by (has q) all ≡ cond (list_any (has q) all) 1 0
    once_counted all once q =
        let kept = once_kept (has q) all (λ front x back cut at. once.new front x back cut q (key_had q x at)) in
        sym (length-filter (has q) all) ∙ ap length kept ∙ count_head _ ∙ ap (λ b. cond b 1 0) (sym (any_filter (has q) all))
