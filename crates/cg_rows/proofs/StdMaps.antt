-- Maps and sets of std as finite maps and sets: what a look-up, a change and a walk in order give.
use Rattle.std.proofs.Common.{◌≡◌, ℕ, ◌+◌, ◌≤◌, length, arith, Bool, true, false, cond, ◌||◌, List, [], ◌∷◌, ◌++◌, refl, sym, ap, subst, ◌∙◌, append_assoc, Some, None}
use Rattle.std.specs.Bool.{passes}
use Rattle.std.specs.List.{list_any, AllByRecursion}
use Rattle.std.specs.List.Sorted.{IsStrictlySortedBy}
use Rattle.std.specs.declared.cmp.Ordering.{Ordering}
use Rattle.std.specs.declared.cmp.Ordering.TheVariants.{Less, Equal, Greater}
use Rattle.std.specs.Ordering.{nat_cmp, eq_by_cmp, match_ordering, is_eq, ordering_reverse}
use Rattle.std.specs.Cmp.{IsTotalOrder, eq_by_cmp_equiv, nat_cmp_total}
use Rattle.std.specs.Map.{keys_of, lookup}
use Rattle.std.specs.BTreeMap.{is_at, insert_entry}
use Rattle.std.specs.FinMap as map
use Rattle.std.specs.FinMap.{find, IsAntisymmetric}
use Rattle.std.specs.FinSet as set
use Rattle.cg_rows.proofs.Changed.{sorted_keys}

module _ {K X : Type 0} {R : K → K → Ordering} (o : IsTotalOrder R) where
  find-lookup : (q : K) (es : List (K × X)) → find R q es ≡ lookup (is_at (R q)) es
  find-lookup q [] = refl
  find-lookup q (e ∷ es) = ap (cond (eq_by_cmp R q e.0) (Some e.1)) (find-lookup q es)

  pub get-shown : (es : List (K × X)) (q : K) → map.get (map.from_entries {R = R} es) q ≡ lookup (is_at (R q)) es
  get-shown es q = map.get-from_entries o es q ∙ find-lookup q es

  pub entries-shown : IsAntisymmetric R → (es : List (K × X)) → IsStrictlySortedBy R (keys_of es)
      → map.entries (map.from_entries {R = R} es) ≡ es
  entries-shown same es ordered =
      let sorted = passes _ (sorted_keys R es ordered) in
      ap map.entries (map.same_map o same (map.from_entries {R = R} es) (map.from_sorted {R = R} es)
      (λ q. map.get-from_entries o es q ∙ sym (map.get-from_sorted R es q sorted))) ∙ map.entries-from_sorted R es sorted

  pub shown-insert : IsAntisymmetric R → (es fs : List (K × X)) (k : K) (v : X)
      → ((q : K) → lookup (is_at (R q)) fs ≡ cond (is_at (R k) q) (Some v) (lookup (is_at (R q)) es))
      → map.from_entries {R = R} fs ≡ map.insert (map.from_entries es) k v
  shown-insert same es fs k v updates = map.same_map o same _ _ (λ q.
      get-shown fs q ∙ updates q ∙ ap (λ b. cond b (Some v) (lookup (is_at (R q)) es)) ((eq_by_cmp_equiv o).symm k q)
      ∙ ap (cond (eq_by_cmp R q k) (Some v)) (sym (get-shown es q)) ∙ sym (map.get-insert o (map.from_entries es) k v q))

  pub shown-remove : IsAntisymmetric R → (es fs : List (K × X)) (k : K)
      → ((q : K) → lookup (is_at (R q)) fs ≡ cond (is_at (R k) q) None (lookup (is_at (R q)) es))
      → map.from_entries {R = R} fs ≡ map.remove (map.from_entries es) k
  shown-remove same es fs k updates = map.same_map o same _ _ (λ q.
      get-shown fs q ∙ updates q ∙ ap (λ b. cond b None (lookup (is_at (R q)) es)) ((eq_by_cmp_equiv o).symm k q)
      ∙ ap (cond (eq_by_cmp R q k) None) (sym (get-shown es q)) ∙ sym (map.get-remove o (map.from_entries es) k q))

  all_last : (P : K → Type 0) (es rest : List (K × X)) (k : K) (v : X) → AllByRecursion P (keys_of (es ++ (k, v) ∷ rest)) → P k
  all_last P [] rest k v h = h.0
  all_last P (e ∷ es) rest k v h = all_last P es rest k v h.1

  -- a key above all others goes to the end
  pub insert_entry-last : (es rest : List (K × X)) (k : K) (v : X) → IsStrictlySortedBy R (keys_of (es ++ (k, v) ∷ rest))
      → insert_entry R es k v ≡ es ++ (k, v) ∷ []
  unfolding IsStrictlySortedBy
  insert_entry-last [] rest k v h = refl
  insert_entry-last (e ∷ es) rest k v h =
      ap (λ r. match_ordering r ((k, v) ∷ e ∷ es) ((e.0, v) ∷ es) (e ∷ insert_entry R es k v))
      (o.antisymm k e.0 ∙ ap ordering_reverse (all_last (λ x. R e.0 x ≡ Less) es rest k v h.0))
      ∙ ap (λ fs. e ∷ fs) (insert_entry-last es rest k v h.1)

  -- one entry more of a map that is copied in order
  pub copied_more : (es all rest next : List (K × X)) (k : K) (v : X) (fs : List (K × X)) → es ++ rest ≡ all → rest ≡ (k, v) ∷ next
      → IsStrictlySortedBy R (keys_of all) → fs ≡ insert_entry R es k v → fs ++ next ≡ all
  copied_more es all rest next k v fs so_far takes ordered new =
      let whole : es ++ (k, v) ∷ next ≡ all = ap (λ r. es ++ r) (sym takes) ∙ so_far in
      ap (λ l. l ++ next)
      (new ∙ insert_entry-last es next k v (subst (λ (l : List (K × X)). IsStrictlySortedBy R (keys_of l)) (sym whole) ordered))
      ∙ append_assoc es ((k, v) ∷ []) next ∙ whole

or_cond : (b c : Bool) → cond b true c ≡ (b || c)
or_cond true c = refl
or_cond false c = refl

module _ {K : Type 0} {R : K → K → Ordering} (o : IsTotalOrder R) where
  pub set_shown-insert : IsAntisymmetric R → (ks ls : List K) (k : K)
      → ((q : K) → list_any (is_at (R q)) ls ≡ cond (is_at (R k) q) true (list_any (is_at (R q)) ks))
      → set.from_list {R = R} ls ≡ set.insert (set.from_list ks) k
  set_shown-insert same ks ls k updates = set.same_set o same _ _ (λ q.
      set.contains-from_list o ls q ∙ updates q ∙ or_cond (is_at (R k) q) (list_any (is_at (R q)) ks)
      ∙ ap (λ b. b || list_any (is_at (R q)) ks) ((eq_by_cmp_equiv o).symm k q)
      ∙ ap (λ b. eq_by_cmp R q k || b) (sym (set.contains-from_list o ks q)) ∙ sym (set.contains-insert o (set.from_list ks) k q))

  -- a key that was inserted and taken out again
  pub set_shown-undone : IsAntisymmetric R → (ks ls ms : List K) (k : K) → set.contains (set.from_list {R = R} ks) k ≡ false
      → ((q : K) → list_any (is_at (R q)) ls ≡ cond (is_at (R k) q) true (list_any (is_at (R q)) ks))
      → ((q : K) → list_any (is_at (R q)) ms ≡ cond (is_at (R k) q) false (list_any (is_at (R q)) ls))
      → set.from_list {R = R} ms ≡ set.from_list ks
  set_shown-undone same ks ls ms k absent inserted removed = set.same_set o same _ _ (λ q.
      set.contains-from_list o ms q ∙ removed q ∙ undone q ∙ sym (set.contains-from_list o ks q))
    where
      undone : (q : K) → cond (is_at (R k) q) false (list_any (is_at (R q)) ls) ≡ list_any (is_at (R q)) ks
      undone q =
          elim (R k q) as (λ r. R k q ≡ r → list_any (is_at (R q)) ls ≡ cond (is_eq r) true (list_any (is_at (R q)) ks)
          → cond (is_eq r) false (list_any (is_at (R q)) ls) ≡ list_any (is_at (R q)) ks) [
            | Less ↦ λ _ e. e
            | Equal ↦ λ tied _. sym (sym (set.contains-from_list o ks q) ∙ set.contains_tied o (set.from_list {R = R} ks) k q tied ∙ absent)
            | Greater ↦ λ _ e. e
          ] refl (inserted q)

-- no more keys than entries
pub few_entries : {X : Type 0} (es : List (ℕ × X)) → map.len (map.from_entries {R = nat_cmp} es) ≤ length es
few_entries {X} [] = omega (arith, map.len-empty nat_cmp X)
few_entries (e ∷ es) =
    let one = map.len-insert nat_cmp_total (map.from_entries {R = nat_cmp} es) e.0 e.1 in
    let rest = few_entries es in
    omega (arith, one, rest, most (map.contains_key (map.from_entries {R = nat_cmp} es) e.0) (map.len (map.from_entries {R = nat_cmp} es)))
  where
    most : (b : Bool) (n : ℕ) → cond b n (n + 1) ≤ n + 1
    most true n = omega arith
    most false n = omega arith
