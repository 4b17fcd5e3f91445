-- How deep the paths of texts lie below a path, as the texts tell.
use Rattle.std.proofs.Common.{◌≡◌, ℕ, suc, ◌+◌, ◌-◌, ◌<◌, max, Bool, true, false, cond, ◌&&◌, not, nat_eq, nat_lt, nat_le, ◌==◌, List, [], ◌∷◌, ◌++◌, length, drop, map as map_list, count_by, fold, filter, refl, sym, ap, ◌∙◌, true≢false, arith, eqb-true, eq-eqb, ltb-true, Some, None, string_bytes, String}
use Rattle.std.specs.List.{starts_with, list_all, AllByRecursion}
use Rattle.std.specs.List.Sorted.{IsStrictlySortedBy}
use Rattle.std.specs.Map.{keys_of}
use Rattle.std.specs.Ordering.{is_eq}
use Rattle.std.specs.String.{string_cmp}
use Rattle.std.specs.Cmp.{first_so, second_so}
use Rattle.std.specs.declared.alloc.Global.{Global}
use Rattle.std.specs.declared.cmp.Ordering.TheVariants.{Less}
use Rattle.std.proofs.lemmas.Bool.{lt-ltb}
use Rattle.std.proofs.lemmas.List.Elements.{recursion_from_All}
use Rattle.std.proofs.lemmas.List.{length-append}
use Rattle.std.specs.FinMap as map
use Rattle.std.specs.FinMap.{FinMap}
use Rattle.cg_cgroup.specs.Paths.{Name, Names, path_cmp, same_name, inside, below, is_name, is_name_byte, is_word, path_text, names_at, IsPath}
use Rattle.cg_cgroup.specs.PathText.{names_text}
use Rattle.cg_cgroup.proofs.PathEnds.{is_name-bytes, path_names}
use Rattle.cg_cgroup.proofs.PathOrder.{path_cmp_total}
use Rattle.cg_model.proofs.MapFolds.{gathered, Commutes, gathered-insert}
use Rattle.cg_places.specs.TextKeys.{number_of, numbers_of, IsText, HasText, AreTexts}
use Rattle.cg_places.specs.Levels.{levels_behind, levels_below, deepest}
use Rattle.cg_model.proofs.StateCounts.{one_more}
use Rattle.cg_places.proofs.Counted.{gathered-count}
use Rattle.cg_places.proofs.TextKeys.{number_at, find-texts}

-- ---- names have no slash

not_true : (b : Bool) → not b ≡ true → b ≡ false
not_true true h = absurd (true≢false (sym h))
not_true false h = refl

plain : (c : ℕ) → is_name_byte c ≡ true → nat_eq c 47 ≡ false
plain c h = not_true (nat_eq c 47) (second_so (nat_le 33 c && nat_le c 126) _ h)

other_way : (c : ℕ) → nat_eq c 47 ≡ false → nat_eq 47 c ≡ false
other_way c h =
    elim (nat_eq 47 c) as (λ b. nat_eq 47 c ≡ b → b ≡ false)
    [ true ↦ λ e. absurd (true≢false (sym (eq-eqb c 47 (sym (eqb-true 47 c e))) ∙ h)) | false ↦ λ e. refl ] refl

and_false : (b : Bool) → (b && false) ≡ false
and_false true = refl
and_false false = refl

step : (c d : ℕ) (x y : List ℕ) → levels_below (c ∷ x) (d ∷ y) ≡ cond (nat_eq c d) (levels_below x y) 0
step c d x y =
    elim (nat_eq c d) as (λ b. cond (b && starts_with nat_eq y x) (levels_behind (drop (length x) y)) 0 ≡ cond b (levels_below x y) 0)
    [ true ↦ refl | false ↦ refl ]

no_more : (d : ℕ) (y : List ℕ) (p : Names) → nat_eq d 47 ≡ false → levels_below (names_text p) (d ∷ y) ≡ 0
no_more d y [] h =
    ap (λ b. cond (nat_lt 1 (length (d ∷ y)) && b) (count_by (λ b. b == 47) (d ∷ y)) 0) h
    ∙ ap (λ b. cond b (count_by (λ b. b == 47) (d ∷ y)) 0) (and_false (nat_lt 1 (length (d ∷ y))))
no_more d y (a ∷ p) h = step 47 d (a ++ names_text p) y ∙ ap (λ b. cond b (levels_below (a ++ names_text p) y) 0) (other_way d h)

too_long : (c : ℕ) (x : List ℕ) (q : Names) → nat_eq c 47 ≡ false → levels_below (c ∷ x) (names_text q) ≡ 0
too_long c x [] h = refl
too_long c x (b ∷ q) h = step c 47 x (b ++ names_text q) ∙ ap (λ t. cond t (levels_below x (b ++ names_text q)) 0) h

names_step : (a b : Name) (p q : Names) → list_all is_name_byte a ≡ true → list_all is_name_byte b ≡ true
    → levels_below (a ++ names_text p) (b ++ names_text q) ≡ cond (same_name a b) (levels_below (names_text p) (names_text q)) 0
names_step [] [] p q h k = refl
names_step [] (d ∷ b) p q h k = no_more d (b ++ names_text q) p (plain d (first_so (is_name_byte d) _ k))
names_step (c ∷ a) [] p q h k = too_long c (a ++ names_text p) q (plain c (first_so (is_name_byte c) _ h))
names_step (c ∷ a) (d ∷ b) p q h k =
    step c d (a ++ names_text p) (b ++ names_text q)
    ∙ elim (nat_eq c d) as (λ t. cond t (levels_below (a ++ names_text p) (b ++ names_text q)) 0
    ≡ cond (t && same_name a b) (levels_below (names_text p) (names_text q)) 0) [
      | true ↦ names_step a b p q (second_so (is_name_byte c) _ h) (second_so (is_name_byte d) _ k)
      | false ↦ refl
    ]

-- ---- slashes count names

plain_adds_none : (name : Name) (rest : List ℕ) → list_all is_name_byte name ≡ true
    → gathered (one_more (λ b. b == 47)) 0 (name ++ rest) ≡ gathered (one_more (λ b. b == 47)) 0 rest
plain_adds_none [] rest h = refl
plain_adds_none (c ∷ name) rest h =
    ap (λ b. cond b (1 + gathered (one_more (λ b. b == 47)) 0 (name ++ rest)) (gathered (one_more (λ b. b == 47)) 0 (name ++ rest)))
    (plain c (first_so (is_name_byte c) _ h))
    ∙ plain_adds_none name rest (second_so (is_name_byte c) _ h)

slashes : (q : Names) → list_all is_name q ≡ true → gathered (one_more (λ b. b == 47)) 0 (names_text q) ≡ length q
slashes [] h = refl
slashes (b ∷ q) h =
    let rest = slashes q (second_so (is_name b) _ h) in
    ap (λ n. 1 + n) (plain_adds_none b (names_text q) (is_name-bytes b (first_so (is_name b) _ h)) ∙ rest) ∙ omega arith

lt_suc : (m n : ℕ) → nat_lt (suc m) (suc n) ≡ nat_lt m n
lt_suc m n = elim (nat_lt m n) as (λ b. nat_lt m n ≡ b → nat_lt (suc m) (suc n) ≡ b) [
  | true ↦ λ e. let l = ltb-true m n e in lt-ltb (suc m) (suc n) (omega arith)
  | false ↦ λ e. elim (nat_lt (suc m) (suc n)) as (λ b. nat_lt (suc m) (suc n) ≡ b → b ≡ false) [
    | true ↦ λ k. let l = ltb-true (suc m) (suc n) k in absurd (true≢false (sym (lt-ltb m n (omega arith)) ∙ e))
    | false ↦ λ k. refl
  ] refl
] refl

abbrev level : Names → Names → ℕ
level p q = cond (below p q) (length q - length p) 0

long_enough : (b : Name) → is_name b ≡ true → 0 < length b
long_enough b h =
    ltb-true 0 (length b)
    (first_so (nat_lt 0 (length b)) _ (first_so (nat_lt 0 (length b) && nat_le (length b) 255) _ (first_so (is_word b) _ h)))

levels_text : (p q : Names) → list_all is_name p ≡ true → list_all is_name q ≡ true → levels_below (names_text p) (names_text q) ≡ level p q
levels_text [] [] h k = refl
levels_text [] (b ∷ q) h k =
    let long = long_enough b (first_so (is_name b) _ k) in
    let size = length-append b (names_text q) in
    let more : nat_lt 1 (length (47 ∷ (b ++ names_text q))) ≡ true =
    lt-ltb 1 (length (47 ∷ (b ++ names_text q))) (omega (arith, long, size)) in
    let deep : nat_lt 0 (length (b ∷ q)) ≡ true = lt-ltb 0 (length (b ∷ q)) (omega arith) in
    ap (λ t. cond (t && true) (count_by (λ b. b == 47) (names_text (b ∷ q))) 0) more
    ∙ sym (gathered-count (λ b. b == 47) (names_text (b ∷ q))) ∙ slashes (b ∷ q) k
    ∙ omega arith ∙ sym (ap (λ t. cond t (length (b ∷ q) - 0) 0) deep)
levels_text (a ∷ p) [] h k = refl
levels_text (a ∷ p) (b ∷ q) h k =
    names_step a b p q (is_name-bytes a (first_so (is_name a) _ h)) (is_name-bytes b (first_so (is_name b) _ k))
    ∙ elim (same_name a b) as (λ t. cond t (levels_below (names_text p) (names_text q)) 0
    ≡ cond ((t && inside p q) && nat_lt (length (a ∷ p)) (length (b ∷ q))) (length (b ∷ q) - length (a ∷ p)) 0) [
      | true ↦
          let less : length q - length p ≡ length (b ∷ q) - length (a ∷ p) = omega arith in
          levels_text p q (second_so (is_name a) _ h) (second_so (is_name b) _ k)
          ∙ (λ i. cond (inside p q && sym (lt_suc (length p) (length q)) i) (less i) 0)
      | false ↦ refl
    ]

-- a key's text and its path
levels_key : (p : Names) (t : List ℕ) → IsPath p → IsText t → levels_below (names_text p) t ≡ level p (names_at t)
levels_key p t h is = ap (levels_below (names_text p)) (sym is.same) ∙ of_path (names_at t) is.path
  where
    alone : (p : Names) → list_all is_name p ≡ true → levels_below (names_text p) (47 ∷ []) ≡ level p []
    alone [] h = refl
    alone (a ∷ p) h =
        let long = long_enough a (first_so (is_name a) _ h) in
        first_byte a (names_text p) long
      where
        first_byte : (a : Name) (x : List ℕ) → 0 < length a → levels_below (47 ∷ (a ++ x)) (47 ∷ []) ≡ 0
        first_byte [] x l = absurd (omega arith)
        first_byte (c ∷ a) x l = refl

    of_path : (q : Names) → IsPath q → levels_below (names_text p) (path_text q) ≡ level p q
    of_path [] k = alone p (path_names p h)
    of_path (b ∷ q) k = levels_text p (b ∷ q) (path_names p h) (path_names (b ∷ q) k)

-- ---- the greatest, in any order

greatest : {A : Type 0} (h : A → ℕ) (xs : List A) → fold max 0 (map_list h xs) ≡ gathered (λ x n. max n (h x)) 0 xs
greatest h [] = refl
greatest h (x ∷ xs) =
    fold_max (max 0 (h x)) (map_list h xs) ∙ (let start : max 0 (h x) ≡ h x = omega arith in ap (max (fold max 0 (map_list h xs))) start)
    ∙ ap (λ n. max n (h x)) (greatest h xs)
  where
    fold_max : (a : ℕ) (ns : List ℕ) → fold max a ns ≡ max (fold max 0 ns) a
    fold_max a [] = omega arith
    fold_max a (n ∷ ns) = omega (arith, fold_max (max a n) ns, fold_max (max 0 n) ns)

filtered : {A : Type 0} (t : A → Bool) (h : A → ℕ) (xs : List A)
    → fold max 0 (map_list h (filter t xs)) ≡ gathered (λ x n. max n (cond (t x) (h x) 0)) 0 xs
filtered t h xs = greatest h (filter t xs) ∙ each xs
  where
    each : (ys : List _) → gathered (λ x n. max n (h x)) 0 (filter t ys) ≡ gathered (λ x n. max n (cond (t x) (h x) 0)) 0 ys
    each [] = refl
    each (y ∷ ys) =
        elim (t y) as (λ b. gathered (λ x n. max n (h x)) 0 (cond b (y ∷ filter t ys) (filter t ys))
        ≡ max (gathered (λ x n. max n (cond (t x) (h x) 0)) 0 ys) (cond b (h y) 0)) [
          | true ↦ ap (λ n. max n (h y)) (each ys)
          | false ↦ each ys ∙ omega arith
        ]

through : {A B : Type 0} (g : A → B) (h : B → ℕ) (xs : List A)
    → gathered (λ x n. max n (h x)) 0 (map_list g xs) ≡ gathered (λ x n. max n (h (g x))) 0 xs
through g h [] = refl
through g h (x ∷ xs) = ap (λ n. max n (h (g x))) (through g h xs)

-- the keys above a key don't have it
none_above : (k : String Global) (es : List (String Global × ℕ)) → AllByRecursion (λ x. string_cmp k x ≡ Less) (keys_of es)
    → number_at es (string_bytes k) ≡ None
none_above k [] h = refl
none_above k (e ∷ es) h = ap (λ r. cond (is_eq r) (Some e.1) (number_at es (string_bytes k))) h.0 ∙ none_above k es h.1

nothing : (es : List (Names × ℕ)) → length es ≡ 0 → es ≡ []
nothing [] h = refl
nothing (e ∷ es) h = absurd (omega arith)

module _ (p : Names) where
  abbrev by_key : Names × ℕ → ℕ → ℕ
  by_key e n = max n (level p e.0)

  swaps : Commutes by_key
  swaps x y n = omega arith

  -- what is gathered of the table is what is gathered of its entries
  over_entries : (es : List (String Global × ℕ)) → AllByRecursion HasText es → IsStrictlySortedBy string_cmp (keys_of es)
      → gathered by_key 0 (map.entries (numbers_of es)) ≡ gathered by_key 0 (map_list number_of es)
  unfolding IsStrictlySortedBy
  over_entries [] are ordered =
      ap (gathered by_key 0) (nothing (map.entries (map.empty {X = ℕ} {R = path_cmp}))
      (omega (arith, map.len-entries (map.empty {X = ℕ} {R = path_cmp}), map.len-empty path_cmp ℕ)))
  over_entries (e ∷ es) are ordered =
      let k = names_at (string_bytes e.0) in
      let none : map.get (numbers_of es) k ≡ None =
      map.get-from_entries path_cmp_total (map_list number_of es) k ∙ find-texts k es are.0.path are.1 ∙ ap (number_at es) are.0.same
      ∙ none_above e.0 es ordered.0 in
      gathered-insert path_cmp_total by_key 0 swaps (numbers_of es) k e.1 none ∙ ap (by_key (k, e.1)) (over_entries es are.1 ordered.1)

  each_key : (es : List (String Global × ℕ)) → IsPath p → AllByRecursion HasText es
      → gathered (λ k n. max n (levels_below (names_text p) (string_bytes k))) 0 (keys_of es) ≡ gathered by_key 0 (map_list number_of es)
  each_key [] h are = refl
  each_key (e ∷ es) h are = (λ i. max (each_key es h are.1 i) (levels_key p (string_bytes e.0) h are.0 i))

  pub deepest_is : (es : List (String Global × ℕ)) (m : FinMap path_cmp ℕ) (front : List ℕ) → numbers_of es ≡ m → front ≡ names_text p
      → IsPath p → AreTexts es → IsStrictlySortedBy string_cmp (keys_of es)
      → fold max 0 (map_list (λ k. levels_below front (string_bytes k)) (keys_of es)) ≡ deepest p (map.keys m)
  deepest_is es m front shows is h are ordered =
      ap (λ f. fold max 0 (map_list (λ k. levels_below f (string_bytes k)) (keys_of es))) is
      ∙ greatest (λ k. levels_below (names_text p) (string_bytes k)) (keys_of es)
      ∙ each_key es h (recursion_from_All HasText es are)
      ∙ sym (over_entries es (recursion_from_All HasText es are) ordered)
      ∙ sym (through (λ (e : Names × ℕ). e.0) (level p) (map.entries (numbers_of es)))
      ∙ sym (filtered (below p) (λ q. length q - length p) (map.keys (numbers_of es)))
      ∙ ap (λ n. deepest p (map.keys n)) shows
