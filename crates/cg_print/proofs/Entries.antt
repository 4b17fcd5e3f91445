-- The entries of a map in turn: each is found by its key.
use Rattle.std.proofs.Common.{◌≡◌, ℕ, ◌+◌, ◌<◌, ◌≤◌, true, cond, T, zero, suc, List, [], ◌∷◌, ◌++◌, length, get_or, take, map as map_list, Some, is_some, option_map, subst, Ordering, Less, Equal, Greater, is_eq, refl, sym, ap, ◌∙◌, arith}
use Rattle.std.proofs.lemmas.List.{take_more, take_all, map-append, get_or-map, length-map}
use Rattle.std.specs.List.{AllByRecursion}
use Rattle.std.specs.Ordering.{is_lt, ordering_reverse}
use Rattle.std.specs.Cmp.{IsTotalOrder, tied_itself}
use Rattle.std.specs.FinMap as finite
use Rattle.std.specs.FinMap.{FinMap, IsAntisymmetric, get, entries}
use Rattle.std.specs.FinMap.Entries.{find, is_sorted, below_all}
use Rattle.toml.specs.Data.{Data}
use Rattle.toml.specs.View.{view}
use Rattle.toml.specs.declared.value.Value.{Value}
use Rattle.cg_cgroup.proofs.Options.{same_some}
use Rattle.cg_model.proofs.MapLaws.{first_of_both, second_of_both, is_less}

module _ {K X : Type 0} (R : K → K → Ordering) (o : IsTotalOrder R) where
  -- a key that is below all is none of them
  above : (k : K) (es : List (K × X)) → T (below_all R k es) → (i : ℕ) (d : K × X) → i < length es → R (get_or es i d).0 k ≡ Greater
  above k [] below i d inside = absurd (omega arith)
  above k (e ∷ es) below zero d inside =
      o.antisymm e.0 k ∙ ap ordering_reverse (is_less (R k e.0) (first_of_both (is_lt (R k e.0)) (below_all R k es) below))
  above k (e ∷ es) below (suc i) d inside = above k es (second_of_both (is_lt (R k e.0)) (below_all R k es) below) i d (omega arith)

  found_at : (es : List (K × X)) → T (is_sorted R es) → (i : ℕ) (d : K × X) → i < length es
      → find R (get_or es i d).0 es ≡ Some (get_or es i d).1
  found_at [] sorted i d inside = absurd (omega arith)
  found_at (e ∷ es) sorted zero d inside = ap (λ r. cond (is_eq r) (Some e.1) (find R e.0 es)) (tied_itself o e.0)
  found_at (e ∷ es) sorted (suc i) d inside =
      ap (λ r. cond (is_eq r) (Some e.1) (find R (get_or es i d).0 es))
      (above e.0 es (first_of_both (below_all R e.0 es) (is_sorted R es) sorted) i d (omega arith))
      ∙ found_at es (second_of_both (below_all R e.0 es) (is_sorted R es) sorted) i d (omega arith)

  -- the entry at a place is found by its key
  pub entry_found : (m : FinMap R X) (i : ℕ) (d : K × X) → i < length (entries m)
      → get m (get_or (entries m) i d).0 ≡ Some (get_or (entries m) i d).1
  entry_found m i d inside = finite.get-entries m _ ∙ found_at (entries m) (finite.entries_sorted m) i d inside

  all_there : (m : FinMap R X) (es : List (K × X))
      → ((i : ℕ) (d : K × X) → i < length es → get m (get_or es i d).0 ≡ Some (get_or es i d).1)
      → AllByRecursion (λ (e : K × X). get m e.0 ≡ Some e.1) es
  all_there m [] each = tt
  all_there m (e ∷ es) each = (each zero e (omega arith), all_there m es (λ i d inside. each (suc i) d (omega arith)))

  -- each entry is found by its key
  pub entries_there : (m : FinMap R X) → AllByRecursion (λ (e : K × X). get m e.0 ≡ Some e.1) (entries m)
  entries_there m = all_there m (entries m) (entry_found m)

module _ {K X : Type 0} {R : K → K → Ordering} (same : IsAntisymmetric R) (P : K → X → Type 0) where
  held_in : (es : List (K × X)) → AllByRecursion (λ (e : K × X). P e.0 e.1) es
      → (key : K) (held : X) → find R key es ≡ Some held → P key held
  held_in [] all key held is = cc
  held_in (e ∷ es) all key held is =
      elim (R key e.0) as (λ o. R key e.0 ≡ o → cond (is_eq o) (Some e.1) (find R key es) ≡ Some held → P key held) [
        | Less ↦ λ _ later. held_in es all.1 key held later
        | Equal ↦ λ tie here. subst (λ q. P q held) (sym (same key e.0 tie)) (subst (P e.0) (same_some e.1 held here) all.0)
        | Greater ↦ λ _ later. held_in es all.1 key held later
      ] refl is

  -- what holds of all entries holds of what is found
  pub held_there : (m : FinMap R X) → AllByRecursion (λ (e : K × X). P e.0 e.1) (entries m)
      → (key : K) (held : X) → get m key ≡ Some held → P key held
  held_there m all key held is = held_in (entries m) all key held (sym (finite.get-entries m key) ∙ is)

-- ---- the entries so far

-- the tables of the first i entries were written, which are named
pub record AreWritten {K X : Type 0} {R : K → K → Ordering} (m : FinMap R X) (write : K → X → Data) (P : K → X → Type 0) (i : ℕ)
    (values : List Value) : Type 0 where
  pub written : map_list view values ≡ map_list (λ (e : K × X). write e.0 e.1) (take i (entries m))
  pub named : AllByRecursion (λ (e : K × X). P e.0 e.1) (take i (entries m))

nth : {A : Type 0} (xs : List A) (i : ℕ) → i < length xs → (x : A) × ((d : A) → get_or xs i d ≡ x)
nth [] i inside = absurd (omega arith)
nth (x ∷ xs) zero inside = (x, λ d. refl)
nth (x ∷ xs) (suc i) inside = nth xs i (omega arith)

all_push : {A : Type 0} (P : A → Type 0) (xs : List A) (x : A) → AllByRecursion P xs → P x → AllByRecursion P (xs ++ x ∷ [])
all_push P [] x all here = (here, tt)
all_push P (y ∷ xs) x all here = (all.0, all_push P xs x all.1 here)

-- what holds of the first items and of the next holds of these together
pub all_more : {A : Type 0} (P : A → Type 0) (xs : List A) (i : ℕ) (d : A) → i < length xs → AllByRecursion P (take i xs)
    → P (get_or xs i d) → AllByRecursion P (take (i + 1) xs)
all_more P xs i d inside kept next =
    subst (AllByRecursion P) (sym (take_more xs i d inside)) (all_push P (take i xs) (get_or xs i d) kept next)

module _ {K X : Type 0} {R : K → K → Ordering} (o : IsTotalOrder R) (m : FinMap R X) (keys : List K) (same : keys ≡ finite.keys m) (i : ℕ)
    (key : K) (inside : i < length keys) (is : key ≡ get_or keys i key) where
  within : i < length (entries m)
  within = omega (arith, ap length same, length-map (entries m) (λ (e : K × X). e.0))

  pub entry : (x : X) × (get m key ≡ Some x) × ((d : K × X) → get_or (entries m) i d ≡ (key, x))
  entry =
      let found = nth (entries m) i within in
      let keyed : key ≡ found.0.0 =
      is ∙ ap (λ ks. get_or ks i key) same ∙ get_or-map (λ (e : K × X). e.0) (entries m) i found.0 key within
      ∙ ap (λ (e : K × X). e.0) (found.1 found.0) in
      let there : get m found.0.0 ≡ Some found.0.1 =
      ap (λ (e : K × X). get m e.0) (sym (found.1 found.0)) ∙ entry_found R o m i found.0 within
      ∙ ap (λ (e : K × X). Some e.1) (found.1 found.0) in
      (found.0.1, ap (get m) keyed ∙ there, λ d. found.1 d ∙ (λ k. (sym keyed k, found.0.1)))

  pub there : is_some (get m key) ≡ true
  there = ap is_some entry.1

  -- one more entry, whose table was written and which is named
  pub more : (write : K → X → Data) (P : K → X → Type 0) (values after : List Value) (value : Value) → after ≡ values ++ value ∷ []
      → AreWritten m write P i values → Some (view value) ≡ option_map (write key) (get m key)
      → ((x : X) → get m key ≡ Some x → P key x) → AreWritten m write P (i + 1) after
  more write P values after value grown kept seen named =
      let one : take (i + 1) (entries m) ≡ take i (entries m) ++ (key, entry.0) ∷ [] =
      take_more (entries m) i (key, entry.0) within ∙ ap (λ (e : K × X). take i (entries m) ++ e ∷ []) (entry.2 (key, entry.0)) in
      let shown : view value ≡ write key entry.0 =
      same_some (view value) (write key entry.0) (seen ∙ ap (option_map (write key)) entry.1) in
      record {
        written =
            ap (map_list view) grown ∙ map-append view values (value ∷ []) ∙ (λ k. kept.written k ++ shown k ∷ [])
            ∙ sym (ap (map_list (λ (e : K × X). write e.0 e.1)) one
            ∙ map-append (λ (e : K × X). write e.0 e.1) (take i (entries m)) ((key, entry.0) ∷ []));
        named =
            subst (AllByRecursion (λ (e : K × X). P e.0 e.1)) (sym one)
            (all_push (λ (e : K × X). P e.0 e.1) (take i (entries m)) (key, entry.0) kept.named (named entry.0 entry.1));
      }

-- all entries
pub all_written : {K X : Type 0} {R : K → K → Ordering} (m : FinMap R X) (keys : List K) → keys ≡ finite.keys m → (i : ℕ)
    → length keys ≤ i → (write : K → X → Data) (P : K → X → Type 0) (values : List Value) → AreWritten m write P i values
    → (map_list view values ≡ map_list (λ (e : K × X). write e.0 e.1) (entries m)) × AllByRecursion (λ (e : K × X). P e.0 e.1) (entries m)
all_written {K = K} {X = X} m keys same i ended write P values are =
    let past : length (entries m) ≤ i = omega (arith, ap length same, length-map (entries m) (λ (e : K × X). e.0)) in
    let all : take i (entries m) ≡ entries m = take_all i (entries m) past in (
      are.written ∙ ap (map_list (λ (e : K × X). write e.0 e.1)) all,
      subst (AllByRecursion (λ (e : K × X). P e.0 e.1)) all are.named,
    )
