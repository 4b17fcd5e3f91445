-- Laws of finite maps: what `get` gives where one value or each is changed, and what a test of the entries finds.
use Rattle.std.proofs.Common.{◌≡◌, Bool, true, false, cond, ◌&&◌, ◌||◌, T, List, [], ◌∷◌, map, filter, refl, sym, ap, ◌∙◌, subst, true≢false, Option, Some, None, is_some, option_map, unwrap_or, Ordering, Less, Equal, Greater}
use Rattle.std.specs.List.{list_any, AllByRecursion}
use Rattle.std.specs.Ordering.{eq_by_cmp, is_eq, is_lt}
use Rattle.std.specs.Cmp.{IsTotalOrder, Equal-is, eq_by_cmp_equiv, tied_itself}
use Rattle.std.specs.FinMap as finite
use Rattle.std.specs.FinMap.{FinMap, IsAntisymmetric, get, insert, entries}
use Rattle.std.specs.FinMap.Entries.{find, put, by_order, is_sorted, below_all}
use Rattle.cg_model.proofs.Lists.{all-each}

pub first_of_both : (a b : Bool) → T (a && b) → T a
first_of_both true b h = tt
first_of_both false b h = h

pub second_of_both : (a b : Bool) → T (a && b) → T b
second_of_both true b h = h
second_of_both false b h = absurd h

pub is_less : (r : Ordering) → T (is_lt r) → r ≡ Less
is_less Less h = refl
is_less Equal h = absurd h
is_less Greater h = absurd h

-- the entries with the value of each changed by its key
abbrev pub change_entries : {K X : Type 0} → (K → X → X) → List (K × X) → List (K × X)
change_entries f es = map (λ e. (e.0, f e.0 e.1)) es

pub list_any-map : {A B : Type 0} (p : B → Bool) (g : A → B) (xs : List A) → list_any p (map g xs) ≡ list_any (λ x. p (g x)) xs
list_any-map p g [] = refl
list_any-map p g (x ∷ xs) = ap (λ b. p (g x) || b) (list_any-map p g xs)

module _ {K X : Type 0} (R : K → K → Ordering) where
  below_all-change_entries : (f : K → X → X) (k : K) (es : List (K × X)) → below_all R k (change_entries f es) ≡ below_all R k es
  below_all-change_entries f k [] = refl
  below_all-change_entries f k (e ∷ es) = ap (λ b. is_lt (R k e.0) && b) (below_all-change_entries f k es)

  is_sorted-change_entries : (f : K → X → X) (es : List (K × X)) → is_sorted R (change_entries f es) ≡ is_sorted R es
  is_sorted-change_entries f [] = refl
  is_sorted-change_entries f (e ∷ es) = λ i. below_all-change_entries f e.0 es i && is_sorted-change_entries f es i

  find-change_entries : IsAntisymmetric R → (f : K → X → X) (q : K) (es : List (K × X))
      → find R q (change_entries f es) ≡ option_map (f q) (find R q es)
  find-change_entries same f q [] = refl
  find-change_entries same f q (e ∷ es) =
      elim (eq_by_cmp R q e.0) as (λ b. eq_by_cmp R q e.0 ≡ b
      → cond b (Some (f e.0 e.1)) (find R q (change_entries f es)) ≡ option_map (f q) (cond b (Some e.1) (find R q es))) [
        | true ↦ λ t. ap (λ k. Some (f k e.1)) (sym (same q e.0 ((Equal-is (R q e.0)).0 t)))
        | false ↦ λ t. find-change_entries same f q es
      ] refl

  -- what passes a test is found by its key, where the keys strictly rise
  find_below : IsTotalOrder R → (q top : K) (es : List (K × X)) → R q top ≡ Equal → T (below_all R top es) → find R q es ≡ None
  find_below o q top [] tied h = refl
  find_below o q top (e ∷ es) tied h =
      ap (λ r. cond (is_eq r) (Some e.1) (find R q es)) (o.congr q top e.0 tied ∙ is_less _ (first_of_both _ _ h))
      ∙ find_below o q top es tied (second_of_both _ _ h)

  find_above : IsTotalOrder R → (q top : K) (es : List (K × X)) → R q top ≡ Less → T (below_all R top es) → find R q es ≡ None
  find_above o q top [] before h = refl
  find_above o q top (e ∷ es) before h =
      ap (λ r. cond (is_eq r) (Some e.1) (find R q es)) (o.trans q top e.0 before (is_less _ (first_of_both _ _ h)))
      ∙ find_above o q top es before (second_of_both _ _ h)

  any_found : IsTotalOrder R → (p : K × X → Bool) (es : List (K × X)) → T (is_sorted R es) → list_any p es ≡ true
      → (e : K × X) × (find R e.0 es ≡ Some e.1) × (p e ≡ true)
  any_found o p [] sorted one = absurd (true≢false (sym one))
  any_found o p (e ∷ es) sorted one =
      elim (p e) as (λ b. p e ≡ b → (b || list_any p es) ≡ true → (d : K × X) × (find R d.0 (e ∷ es) ≡ Some d.1) × (p d ≡ true)) [
        | true ↦ λ t _. (e, ap (λ r. cond (is_eq r) (Some e.1) (find R e.0 es)) (tied_itself o e.0), t)
        | false ↦ λ t rest.
            let later = any_found o p es (second_of_both _ _ sorted) rest in
            let d = later.0 in
            let past : eq_by_cmp R d.0 e.0 ≡ false =
            elim (eq_by_cmp R d.0 e.0) as (λ b. eq_by_cmp R d.0 e.0 ≡ b → b ≡ false) [
              | true ↦
                  λ tied.
                  absurd (true≢false (ap is_some (sym later.1 ∙ find_below o d.0 e.0 es ((Equal-is _).0 tied) (first_of_both _ _ sorted))))
              | false ↦ λ _. refl
            ] refl in
            (d, ap (λ b. cond b (Some e.1) (find R d.0 es)) past ∙ later.1, later.2)
      ] refl one

  -- each entry is found by its key
  all_found : IsTotalOrder R → (es : List (K × X)) → T (is_sorted R es) → AllByRecursion (λ e. find R e.0 es ≡ Some e.1) es
  all_found o [] sorted = tt
  all_found o (e ∷ es) sorted = (
    ap (λ r. cond (is_eq r) (Some e.1) (find R e.0 es)) (tied_itself o e.0),
    all-each (λ d. find R d.0 es ≡ Some d.1) (λ d. find R d.0 (e ∷ es) ≡ Some d.1) behind es (all_found o es (second_of_both _ _ sorted)),
  )
    where
      behind : (d : K × X) → find R d.0 es ≡ Some d.1 → find R d.0 (e ∷ es) ≡ Some d.1
      behind d found =
          elim (eq_by_cmp R d.0 e.0) as (λ b. eq_by_cmp R d.0 e.0 ≡ b → cond b (Some e.1) (find R d.0 es) ≡ Some d.1) [
            | true ↦
                λ tied.
                absurd (true≢false (ap is_some (sym found ∙ find_below o d.0 e.0 es ((Equal-is _).0 tied) (first_of_both _ _ sorted))))
            | false ↦ λ _. found
          ] refl

  -- what passes a test, by the keys
  keys-passing : (p : K → X → Bool) (held : K → Option X) (es : List (K × X)) → AllByRecursion (λ e. held e.0 ≡ Some e.1) es
      → map (λ e. e.0) (filter (λ e. p e.0 e.1) es) ≡ filter (λ k. elim (held k) [ None ↦ false | Some x ↦ p k x ]) (map (λ e. e.0) es)
  keys-passing p held [] found = refl
  keys-passing p held (e ∷ es) found =
      let rest = filter (λ k. elim (held k) [ None ↦ false | Some x ↦ p k x ]) (map (λ e. e.0) es) in
      elim (p e.0 e.1)
      as (λ b. map (λ e. e.0) (cond b (e ∷ filter (λ e. p e.0 e.1) es) (filter (λ e. p e.0 e.1) es)) ≡ cond b (e.0 ∷ rest) rest) [
        | true ↦ ap (λ ks. e.0 ∷ ks) (keys-passing p held es found.1)
        | false ↦ keys-passing p held es found.1
      ]
      ∙ ap (λ r. cond (elim r [ None ↦ false | Some x ↦ p e.0 x ]) (e.0 ∷ rest) rest) (sym found.0)

  found_any : IsAntisymmetric R → (p : K × X → Bool) (es : List (K × X)) (k : K) (x : X) → find R k es ≡ Some x → p (k, x) ≡ true
      → list_any p es ≡ true
  found_any same p [] k x is one = absurd (true≢false (sym (ap is_some is)))
  found_any same p (e ∷ es) k x is one =
      elim (eq_by_cmp R k e.0) as (λ b. eq_by_cmp R k e.0 ≡ b → cond b (Some e.1) (find R k es) ≡ Some x → (p e || list_any p es) ≡ true) [
        | true ↦ λ tied is.
            let keys = same k e.0 ((Equal-is _).0 tied) in
            let values : e.1 ≡ x = ap (λ o. unwrap_or o x) is in
            ap (λ b. b || list_any p es) ((λ i. p (sym keys i, values i)) ∙ one)
        | false ↦
            λ _ is. ap (λ b. p e || b) (found_any same p es k x is one)
            ∙ elim (p e) as (λ b. (b || true) ≡ true) [ true ↦ refl | false ↦ refl ]
      ] refl is

  -- a put at a key that is there keeps the keys
  keys-put : IsTotalOrder R → (k : K) (v x : X) (es : List (K × X)) → T (is_sorted R es) → find R k es ≡ Some x
      → map (λ e. e.0) (put R k v es) ≡ map (λ e. e.0) es
  keys-put o k v x [] sorted is = absurd (true≢false (sym (ap is_some is)))
  keys-put o k v x (e ∷ es) sorted is =
      elim (R k e.0) as (λ r. R k e.0 ≡ r → cond (is_eq r) (Some e.1) (find R k es) ≡ Some x
      → map (λ e. e.0) (by_order r ((k, v) ∷ e ∷ es) ((e.0, v) ∷ es) (e ∷ put R k v es)) ≡ e.0 ∷ map (λ e. e.0) es) [
        | Less ↦
            λ before is. absurd (true≢false (sym (ap is_some is) ∙ ap is_some (find_above o k e.0 es before (first_of_both _ _ sorted))))
        | Equal ↦ λ _ _. refl
        | Greater ↦ λ _ is. ap (λ ks. e.0 ∷ ks) (keys-put o k v x es (second_of_both _ _ sorted) is)
      ] refl is

module _ {K X : Type 0} {R : K → K → Ordering} where
  pub entries-changed : (f : K → X → X) (m : FinMap R X)
      → entries (finite.from_sorted {R = R} (change_entries f (entries m))) ≡ change_entries f (entries m)
  entries-changed f m = finite.entries-from_sorted R _ (subst T (sym (is_sorted-change_entries R f (entries m))) (finite.entries_sorted m))

  pub get-changed : IsAntisymmetric R → (f : K → X → X) (m : FinMap R X) (q : K)
      → get (finite.from_sorted {R = R} (change_entries f (entries m))) q ≡ option_map (f q) (get m q)
  get-changed same f m q =
      finite.get-entries _ q ∙ ap (find R q) (entries-changed f m) ∙ find-change_entries R same f q (entries m)
      ∙ ap (option_map (f q)) (sym (finite.get-entries m q))

  pub keys-changed : (f : K → X → X) (m : FinMap R X)
      → finite.keys (finite.from_sorted {R = R} (change_entries f (entries m))) ≡ finite.keys m
  keys-changed f m = ap (map (λ e. e.0)) (entries-changed f m) ∙ same_keys (entries m)
    where
      same_keys : (es : List (K × X)) → map (λ e. e.0) (change_entries f es) ≡ map (λ e. e.0) es
      same_keys [] = refl
      same_keys (e ∷ es) = ap (λ ks. e.0 ∷ ks) (same_keys es)

  -- an entry that passes a test is there by its key, and the other way round
  pub any_entry : IsTotalOrder R → (p : K × X → Bool) (m : FinMap R X) → list_any p (entries m) ≡ true
      → (k : K) × (x : X) × (get m k ≡ Some x) × (p (k, x) ≡ true)
  any_entry o p m one =
      let found = any_found R o p (entries m) (finite.entries_sorted m) one in
      (found.0.0, found.0.1, finite.get-entries m _ ∙ found.1, found.2)

  pub entry_any : IsAntisymmetric R → (p : K × X → Bool) (m : FinMap R X) (k : K) (x : X) → get m k ≡ Some x → p (k, x) ≡ true
      → list_any p (entries m) ≡ true
  entry_any same p m k x is one = found_any R same p (entries m) k x (sym (finite.get-entries m k) ∙ is) one

  -- the keys of the entries that pass a test are those whose values pass
  pub keys-filtered : IsTotalOrder R → (p : K → X → Bool) (m : FinMap R X)
      → map (λ e. e.0) (filter (λ e. p e.0 e.1) (entries m))
      ≡ filter (λ k. elim (get m k) [ None ↦ false | Some x ↦ p k x ]) (finite.keys m)
  keys-filtered o p m =
      keys-passing R p (get m) (entries m)
      (all-each (λ e. find R e.0 (entries m) ≡ Some e.1) (λ e. get m e.0 ≡ Some e.1) (λ e is. finite.get-entries m e.0 ∙ is) (entries m)
      (all_found R o (entries m) (finite.entries_sorted m)))

  -- the map with the value at a key changed, where the key is there
  abbrev pub change_value : FinMap R X → K → (X → X) → FinMap R X
  change_value m k f = elim (get m k) [ None ↦ m | Some x ↦ insert m k (f x) ]

  pub change_value-there : (m : FinMap R X) (k : K) (f : X → X) (x : X) → get m k ≡ Some x → change_value m k f ≡ insert m k (f x)
  change_value-there m k f x is = ap (λ r. elim r as (λ _. FinMap R X) [ None ↦ m | Some x ↦ insert m k (f x) ]) is

module _ {K X : Type 0} {R : K → K → Ordering} (o : IsTotalOrder R) where
  pub get-change_value : (m : FinMap R X) (k : K) (f : X → X) (q : K)
      → get (change_value m k f) q ≡ cond (eq_by_cmp R k q) (option_map f (get m q)) (get m q)
  get-change_value m k f q =
      let tied : eq_by_cmp R k q ≡ true → get m q ≡ get m k = λ t. finite.get_tied o m k q ((Equal-is (R k q)).0 t) in
      elim (get m k) as (λ r. get m k ≡ r
      → get (elim r [ None ↦ m | Some x ↦ insert m k (f x) ]) q ≡ cond (eq_by_cmp R k q) (option_map f (get m q)) (get m q)) [
        | None ↦ λ is. elim (eq_by_cmp R k q) as (λ b. eq_by_cmp R k q ≡ b → get m q ≡ cond b (option_map f (get m q)) (get m q)) [
          | true ↦ λ t. let none = tied t ∙ is in none ∙ sym (ap (option_map f) none)
          | false ↦ λ t. refl
        ] refl
        | Some x ↦ λ is. finite.get-insert o m k (f x) q ∙ ap (λ b. cond b (Some (f x)) (get m q)) ((eq_by_cmp_equiv o).symm q k)
            ∙ elim (eq_by_cmp R k q) as
            (λ b. eq_by_cmp R k q ≡ b → cond b (Some (f x)) (get m q) ≡ cond b (option_map f (get m q)) (get m q)) [
              | true ↦ λ t. sym (ap (option_map f) (tied t ∙ is))
              | false ↦ λ t. refl
            ] refl
      ] refl

  pub keys-insert-there : (m : FinMap R X) (k : K) (v x : X) → get m k ≡ Some x → finite.keys (insert m k v) ≡ finite.keys m
  keys-insert-there m k v x is = ap (map (λ e. e.0)) (finite.entries-insert o m k v)
      ∙ keys-put R o k v x (entries m) (finite.entries_sorted m) (sym (finite.get-entries m k) ∙ is)

  pub keys-change_value : (m : FinMap R X) (k : K) (f : X → X) → finite.keys (change_value m k f) ≡ finite.keys m
  keys-change_value m k f =
      elim (get m k) as (λ r. get m k ≡ r → finite.keys (elim r [ None ↦ m | Some x ↦ insert m k (f x) ]) ≡ finite.keys m)
      [ None ↦ λ _. refl | Some x ↦ λ is. keys-insert-there m k (f x) x is ] refl
