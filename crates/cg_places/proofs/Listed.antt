-- Paths listed one by one out of their texts.
use Rattle.std.proofs.Common.{◌≡◌, ℕ, Bool, true, false, cond, ◌&&◌, ◌||◌, List, [], ◌∷◌, map as map_list, Some, None, Option, is_some, string_bytes, String, refl, sym, ap, ◌∙◌, subst, true≢false}
use Rattle.std.specs.List.{AllByRecursion, list_any}
use Rattle.std.specs.BTreeMap.{is_at}
use Rattle.std.specs.List.Sorted.{IsStrictlySortedBy}
use Rattle.std.specs.Bool.{passes}
use Rattle.std.specs.Ordering.{eq_by_cmp, is_lt}
use Rattle.std.specs.declared.cmp.Ordering.TheVariants.{Less}
use Rattle.std.specs.Cmp.{eq_by_cmp_equiv}
use Rattle.std.specs.FinMap as map
use Rattle.std.specs.FinMap.{FinMap, find}
use Rattle.std.specs.FinMap.Entries.{is_sorted, below_all}
use Rattle.std.specs.declared.alloc.Global.{Global}
use Rattle.cg_cgroup.specs.Paths.{Names, path_cmp, names_at}
use Rattle.cg_cgroup.proofs.PathOrder.{path_cmp_total}
use Rattle.cg_places.specs.Values.{map_values}
use Rattle.cg_places.proofs.Values.{get-mapped, keys-mapped, same_maps}
use Rattle.cg_cgroup.proofs.Options.{is_some-mapped}
use Rattle.cg_places.specs.TextKeys.{number_of, numbers_of, IsText, HasText}

-- the paths that are listed, and those of the texts to come, are all
pub record AreListed (es rest : List (String Global × ℕ)) (paths : List Names) : Type 0 where
  pub texts : AllByRecursion HasText rest
  pub ordered : IsStrictlySortedBy path_cmp paths
  pub all : (q : Names) → (list_any (is_at (path_cmp q)) paths || is_some (find path_cmp q (map_list number_of rest)))
      ≡ is_some (find path_cmp q (map_list number_of es))

pub listed_none : (es rest : List (String Global × ℕ)) (paths : List Names) → rest ≡ es → paths ≡ [] → AllByRecursion HasText es
    → IsStrictlySortedBy path_cmp paths → AreListed es rest paths
listed_none es rest paths same none texts ordered = record {
  ordered = ordered;
  texts = subst (AllByRecursion HasText) (sym same) texts;
  all = λ q. (λ i. list_any (is_at (path_cmp q)) (none i) || is_some (find path_cmp q (map_list number_of (same i))));
}

pub listed_text : (es rest next : List (String Global × ℕ)) (k : String Global) (v : ℕ) (paths : List Names) → AreListed es rest paths
    → rest ≡ (k, v) ∷ next → IsText (string_bytes k)
listed_text es rest next k v paths so_far takes = (subst (AllByRecursion HasText) takes so_far.texts).0

pub listed_more : (es rest next : List (String Global × ℕ)) (k : String Global) (v : ℕ) (path : Names) (paths more : List Names)
    → AreListed es rest paths → rest ≡ (k, v) ∷ next → path ≡ names_at (string_bytes k)
    → ((q : Names) → list_any (is_at (path_cmp q)) more ≡ cond (is_at (path_cmp path) q) true (list_any (is_at (path_cmp q)) paths))
    → IsStrictlySortedBy path_cmp more → AreListed es next more
listed_more es rest next k v path paths more so_far takes is new ordered = record {
  ordered = ordered;
  texts = (subst (AllByRecursion HasText) takes so_far.texts).1;
  all = λ q.
      ap (λ b. b || is_some (find path_cmp q (map_list number_of next)))
      (new q ∙ ap (λ b. cond b true (list_any (is_at (path_cmp q)) paths)) (tie q))
      ∙ moved (eq_by_cmp path_cmp q (names_at (string_bytes k))) (list_any (is_at (path_cmp q)) paths) v
      (find path_cmp q (map_list number_of next))
      ∙ ap (λ r. list_any (is_at (path_cmp q)) paths || is_some (find path_cmp q (map_list number_of r))) (sym takes) ∙ so_far.all q;
}
  where
    tie : (q : Names) → is_at (path_cmp path) q ≡ eq_by_cmp path_cmp q (names_at (string_bytes k))
    tie q = (eq_by_cmp_equiv path_cmp_total).symm path q ∙ ap (eq_by_cmp path_cmp q) is

    moved : (b a : Bool) (v : ℕ) (o : Option ℕ) → (cond b true a || is_some o) ≡ (a || is_some (cond b (Some v) o))
    moved true true v o = refl
    moved true false v o = refl
    moved false a v o = refl

-- and once all are
pub listed_all : (es rest : List (String Global × ℕ)) (paths : List Names) → AreListed es rest paths → rest ≡ [] → (q : Names)
    → list_any (is_at (path_cmp q)) paths ≡ map.contains_key (numbers_of es) q
listed_all es rest paths so_far none q =
    sym (or_false (list_any (is_at (path_cmp q)) paths))
    ∙ ap (λ r. list_any (is_at (path_cmp q)) paths || is_some (find path_cmp q (map_list number_of r))) (sym none) ∙ so_far.all q
    ∙ sym (ap is_some (map.get-from_entries path_cmp_total (map_list number_of es) q))
  where
    or_false : (b : Bool) → (b || false) ≡ b
    or_false true = refl
    or_false false = refl

-- ---- a rising list of a map's keys is that of its keys

abbrev entries_of : List Names → List (Names × Unit {0})
entries_of ks = map_list (λ k. (k, tt)) ks

keys_again : (ks : List Names) → map_list (λ e. e.0) (entries_of ks) ≡ ks
keys_again [] = refl
keys_again (k ∷ ks) = ap (λ rest. k ∷ rest) (keys_again ks)

below_all-listed : (k : Names) (ks : List Names) → AllByRecursion (λ x. path_cmp k x ≡ Less) ks
    → below_all path_cmp k (entries_of ks) ≡ true
below_all-listed k [] h = refl
below_all-listed k (x ∷ ks) h = λ i. is_lt (h.0 i) && below_all-listed k ks h.1 i

is_sorted-listed : (ks : List Names) → IsStrictlySortedBy path_cmp ks → is_sorted path_cmp (entries_of ks) ≡ true
unfolding IsStrictlySortedBy
is_sorted-listed [] h = refl
is_sorted-listed (k ∷ ks) h = λ i. below_all-listed k ks h.0 i && is_sorted-listed ks h.1 i

found_any : (q : Names) (ks : List Names) → is_some (find path_cmp q (entries_of ks)) ≡ list_any (is_at (path_cmp q)) ks
found_any q [] = refl
found_any q (k ∷ ks) =
    elim (is_at (path_cmp q) k) as
    (λ b. is_some (cond b (Some tt) (find path_cmp q (entries_of ks))) ≡ (b || list_any (is_at (path_cmp q)) ks))
    [ true ↦ refl | false ↦ found_any q ks ]

same_units : (a b : Option (Unit {0})) → is_some a ≡ is_some b → a ≡ b
same_units None None h = refl
same_units None (Some y) h = absurd (true≢false (sym h))
same_units (Some x) None h = absurd (true≢false h)
same_units (Some x) (Some y) h = refl

pub keys_listed : {X : Type 0} (ks : List Names) (m : FinMap path_cmp X) → IsStrictlySortedBy path_cmp ks
    → ((q : Names) → list_any (is_at (path_cmp q)) ks ≡ map.contains_key m q) → ks ≡ map.keys m
keys_listed ks m ordered same =
    let es = entries_of ks in
    let sorted = passes _ (is_sorted-listed ks ordered) in
    let units = map_values (λ _. tt) m in
    let maps : map.from_sorted {R = path_cmp} es ≡ units =
    same_maps _ _ (λ q. same_units _ _ (ap is_some (map.get-from_sorted path_cmp es q sorted) ∙ found_any q ks ∙ same q
    ∙ sym (ap is_some (get-mapped (λ _. tt) m q) ∙ is_some-mapped (λ _. tt) (map.get m q)))) in
    sym (keys_again ks) ∙ ap (map_list (λ e. e.0)) (sym (map.entries-from_sorted path_cmp es sorted)) ∙ ap map.keys maps
    ∙ keys-mapped (λ _. tt) m
