-- Rows of which each gives a key and a value, as the entries of a map: what the map finds is what the first row of the key gives.
use Rattle.std.proofs.Common.{◌≡◌, Bool, true, false, cond, ◌||◌, List, [], ◌∷◌, Option, Some, None, is_some, refl, sym, ap, ◌∙◌, true≢false, arith}
use Rattle.std.specs.Prelude.{find}
use Rattle.std.specs.List.{AllByRecursion, list_any}
use Rattle.std.specs.Ordering.{eq_by_cmp}
use Rattle.std.specs.declared.cmp.Ordering.{Ordering}
use Rattle.std.specs.Cmp.{Equal-is}
use Rattle.std.specs.FinMap as map
use Rattle.std.specs.FinMap.{IsAntisymmetric}
use Rattle.cg_cgroup.proofs.Options.{same_some}

found_or : {X : Type 0} (tied : Bool) (x : X) (later : Option X) (any : Bool) → is_some later ≡ any
    → is_some (cond tied (Some x) later) ≡ (tied || any)
found_or tied x later any is = grind arith

module _ {A K X : Type 0} {R : K → K → Ordering} (one : IsAntisymmetric R) (key : A → Option K) (same : K → K → Bool)
    (ties : (q k : K) → same q k ≡ eq_by_cmp R q k) (P : A → Type 0) (pair : (row : A) → P row → K × X)
    (keyed : (row : A) (is : P row) → key row ≡ Some (pair row is).0) where
  abbrev pub pairs_of : (rows : List A) → AllByRecursion P rows → List (K × X)
  pairs_of [] all = []
  pairs_of (row ∷ rows) all = pair row all.0 ∷ pairs_of rows all.1

  abbrev has : K → A → Bool
  has q row = elim (key row) [ None ↦ false | Some said ↦ same q said ]

  tied : (q : K) (row : A) (is : P row) → has q row ≡ eq_by_cmp R q (pair row is).0
  tied q row is = ap (λ (o : Option K). elim o [ None ↦ false | Some said ↦ same q said ]) (keyed row is) ∙ ties q (pair row is).0

  pub pair_there : (q : K) (rows : List A) (all : AllByRecursion P rows)
      → is_some (map.find R q (pairs_of rows all)) ≡ list_any (has q) rows
  pair_there q [] all = refl
  pair_there q (row ∷ rows) all =
      found_or (eq_by_cmp R q (pair row all.0).0) (pair row all.0).1 (map.find R q (pairs_of rows all.1)) (list_any (has q) rows)
      (pair_there q rows all.1)
      ∙ ap (λ b. b || list_any (has q) rows) (sym (tied q row all.0))

  -- the first row of a key, which gives the value
  pub record GivesPair (rows : List A) (q : K) (x : X) : Type 0 where
    pub row : A
    pub is : P row
    pub found : find (has q) rows ≡ Some row
    pub key_is : q ≡ (pair row is).0
    pub value_is : (pair row is).1 ≡ x

  pub pair_found : (q : K) (x : X) (rows : List A) (all : AllByRecursion P rows)
      → map.find R q (pairs_of rows all) ≡ Some x → GivesPair rows q x
  pair_found q x [] all found = absurd (true≢false (sym (ap is_some found)))
  pair_found q x (row ∷ rows) all found =
      elim (eq_by_cmp R q (pair row all.0).0) as (λ b.
      eq_by_cmp R q (pair row all.0).0 ≡ b → cond b (Some (pair row all.0).1) (map.find R q (pairs_of rows all.1)) ≡ Some x
      → GivesPair (row ∷ rows) q x) [
        | true ↦ λ tie found. record {
          row = row;
          is = all.0;
          found = ap (λ b. cond b (Some row) (find (has q) rows)) (tied q row all.0 ∙ tie);
          key_is = one q (pair row all.0).0 ((Equal-is _).0 tie);
          value_is = same_some (pair row all.0).1 x found;
        }
        | false ↦ λ tie found.
            let later = pair_found q x rows all.1 found in
            record {
              row = later.row;
              is = later.is;
              found = ap (λ b. cond b (Some row) (find (has q) rows)) (tied q row all.0 ∙ tie) ∙ later.found;
              key_is = later.key_is;
              value_is = later.value_is;
            }
      ] refl found
