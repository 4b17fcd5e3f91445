-- Entries changed one by one, and the entries of a finished map.
use Rattle.std.proofs.Common.{◌≡◌, ℕ, ◌+◌, ◌<◌, true, List, [], ◌∷◌, ◌++◌, length, take, drop, set, get_or, map as map_list, refl, sym, ap, ◌∙◌, arith}
use Rattle.std.proofs.lemmas.Bool.{and_from}
use Rattle.std.proofs.lemmas.List.{drop_more, set_at, map_more, append_assoc, length-map, length-take-le, get_or_at}
use Rattle.std.specs.List.{AllByRecursion}
use Rattle.std.specs.List.Sorted.{IsStrictlySortedBy}
use Rattle.std.specs.declared.cmp.Ordering.{Ordering}
use Rattle.std.specs.declared.cmp.Ordering.TheVariants.{Less}
use Rattle.std.specs.Ordering.{is_lt}
use Rattle.std.specs.FinMap as map
use Rattle.std.specs.FinMap.{is_sorted}
use Rattle.std.specs.FinMap.Entries.{below_all}
use Rattle.cg_cgroup.specs.Paths.{Names, path_cmp}
use Rattle.cg_model.specs.States.{change_each}
use Rattle.cg_cgroup.proofs.PathOrder.{path_cmp_total}
use Rattle.cg_model.proofs.MapLaws.{entries-changed}
use Rattle.cg_rows.proofs.Sorted.{shown_entries, holds_true}

module _ {X : Type 0} (f : X → X) where
  split_at : (all : List X) (i : ℕ) (d : X) → i < length all
      → map_list f (take i all) ++ drop i all ≡ map_list f (take i all) ++ get_or all i d ∷ drop (i + 1) all
  split_at all i d l = ap (λ xs. map_list f (take i all) ++ xs) (drop_more all i d l)

  front_length : (all : List X) (i : ℕ) → i < length all → length (map_list f (take i all)) ≡ i
  front_length all i l = length-map (take i all) f ∙ length-take-le i all (omega arith)

  -- an element that isn't changed yet is as it was
  pub unchanged_yet : (all xs : List X) (i : ℕ) (d : X) → xs ≡ map_list f (take i all) ++ drop i all → i < length all
      → get_or xs i d ≡ get_or all i d
  unchanged_yet all xs i d so_far l = ap (λ ys. get_or ys i d) (so_far ∙ split_at all i d l) ∙ get_or_at _ _ _ d i (front_length all i l)

  pub changed_one : (all xs : List X) (i : ℕ) (d x : X) → xs ≡ map_list f (take i all) ++ drop i all → i < length all
      → x ≡ f (get_or xs i d)
      → set xs i x ≡ map_list f (take (i + 1) all) ++ drop (i + 1) all
  changed_one all xs i d x so_far l new =
      (λ j. set ((so_far ∙ split_at all i d l) j) i ((new ∙ ap f (unchanged_yet all xs i d so_far l)) j))
      ∙ set_at _ _ _ _ i (front_length all i l)
      ∙ sym (append_assoc (map_list f (take i all)) (f (get_or all i d) ∷ []) (drop (i + 1) all))
      ∙ ap (λ ys. ys ++ drop (i + 1) all) (sym (map_more f all i d l))

-- ---- the table of the changed entries

module _ {X : Type 0} (f : Names → X → X) {m : map.FinMap path_cmp X} (es gs : List (Names × X)) (shows : map.from_sorted es ≡ m)
    (sorted : is_sorted path_cmp es ≡ true) (new : gs ≡ map_list (λ e. (e.0, f e.0 e.1)) es) where
  new_entries : gs ≡ map_list (λ e. (e.0, f e.0 e.1)) (map.entries m)
  new_entries = new ∙ ap (map_list (λ e. (e.0, f e.0 e.1))) (shown_entries path_cmp_total es es shows sorted refl)

  pub each_changed : map.from_sorted gs ≡ change_each f m
  each_changed = ap map.from_sorted new_entries

  pub each_sorted : is_sorted path_cmp gs ≡ true
  each_sorted = ap (is_sorted path_cmp) (new_entries ∙ sym (entries-changed f m)) ∙ holds_true _ (map.entries_sorted (change_each f m))

-- ---- the entries of a map that is finished

module _ {K X : Type 0} (R : K → K → Ordering) where
  below_keys : (k : K) (es : List (K × X)) → AllByRecursion (λ x. R k x ≡ Less) (map_list (λ e. e.0) es) → below_all R k es ≡ true
  below_keys k [] h = refl
  below_keys k (e ∷ es) h = and_from _ _ (ap is_lt h.0) (below_keys k es h.1)

  pub sorted_keys : (es : List (K × X)) → IsStrictlySortedBy R (map_list (λ e. e.0) es) → is_sorted R es ≡ true
  unfolding IsStrictlySortedBy
  sorted_keys [] h = refl
  sorted_keys (e ∷ es) h = and_from _ _ (below_keys e.0 es h.0) (sorted_keys es h.1)

  pub sorted_map : (es fs : List (K × X)) → fs ≡ es → IsStrictlySortedBy R (map_list (λ e. e.0) es) → is_sorted R fs ≡ true
  sorted_map es fs same h = ap (is_sorted R) same ∙ sorted_keys es h
