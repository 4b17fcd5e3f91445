-- A list with something at a place of it or behind the others, and places that no path has.
use Rattle.std.proofs.Common.{◌≡◌, ℕ, ◌<◌, ◌≤◌, ◌≢◌, Bool, true, false, true≢false, not, ◌&&◌, cond, nat_lt, Option, List, [], ◌∷◌, ◌++◌, length, get_or, map as map_list, refl, sym, ap, ◌∙◌, Some, None, arith}
use Rattle.std.specs.Prelude.{slice_set}
use Rattle.std.proofs.lemmas.Bool.{lt-ltb, ltb-true, ltb-false}
use Rattle.std.proofs.lemmas.List.{get_or_append_left, get_or_at, get_or-set_same, get_or-set_other, length-append, length-set, length-map, map-set, map_push, with_items_is}
use Rattle.std.specs.Global.{Vec}
use Rattle.std.specs.Vec.{with_items}
use Rattle.std.specs.FinMap as map
use Rattle.std.specs.FinMap.{FinMap}
use Rattle.cg_cgroup.specs.Paths.{Names, path_cmp, parent}
use Rattle.cg_places.specs.Links.{link_at, is_vacant, place_for, put_at, ArePlaced}
use Rattle.cg_places.specs.declared.links.Link.{Link}

-- an element changed through a slice of a vector
pub set_through : {A : Type 0} (xs : Vec A) (i : ℕ) (f : A → A) (d : A) (now new : List A) → now ≡ xs.items → length new ≡ length now
    → new ≡ slice_set now i (f (get_or now i d))
    → (with_items xs new).items ≡ slice_set xs.items i (f (get_or xs.items i d))
set_through xs i f d now new is long set =
    with_items_is xs new (omega (arith, long, ap length is, xs.ok.0)) ∙ set ∙ ap (λ ys. slice_set ys i (f (get_or ys i d))) is

module _ {A : Type 0} (xs : List A) (i : ℕ) (x : A) where
  pub put_here : (d : A) → i ≤ length xs → get_or (put_at xs i x) i d ≡ x
  put_here d l =
      elim (nat_lt i (length xs)) as (λ b. nat_lt i (length xs) ≡ b → get_or (cond b (slice_set xs i x) (xs ++ x ∷ [])) i d ≡ x) [
        | true ↦ λ e. get_or-set_same xs i x d (ltb-true i (length xs) e)
        | false ↦ λ e. let past = ltb-false i (length xs) e in get_or_at xs x [] d i (omega (arith, past, l))
      ] refl

  pub put_other : (j : ℕ) (d : A) → j < length xs → j ≢ i → get_or (put_at xs i x) j d ≡ get_or xs j d
  put_other j d l other =
      elim (nat_lt i (length xs)) as (λ b. get_or (cond b (slice_set xs i x) (xs ++ x ∷ [])) j d ≡ get_or xs j d) [
        | true ↦ get_or-set_other xs i j x d other
        | false ↦ get_or_append_left xs (x ∷ []) d j l
      ]

  pub put_longer : length xs ≤ length (put_at xs i x)
  put_longer =
      elim (nat_lt i (length xs)) as (λ b. length xs ≤ length (cond b (slice_set xs i x) (xs ++ x ∷ []))) [
        | true ↦ omega (arith, length-set xs i x)
        | false ↦ omega (arith, length-append xs (x ∷ []))
      ]

  pub put_within : i ≤ length xs → i < length (put_at xs i x)
  put_within l =
      elim (nat_lt i (length xs)) as (λ b. nat_lt i (length xs) ≡ b → i < length (cond b (slice_set xs i x) (xs ++ x ∷ []))) [
        | true ↦ λ e. let within = ltb-true i (length xs) e in omega (arith, within, length-set xs i x)
        | false ↦ λ e. omega (arith, l, length-append xs (x ∷ []))
      ] refl

pub put_paired : {A B : Type 0} (xs : List A) (ys : List B) (i : ℕ) (x : A) (y : B) → length xs ≡ length ys
    → length (put_at xs i x) ≡ length (put_at ys i y)
put_paired xs ys i x y same =
    ap (λ n. length (cond (nat_lt i n) (slice_set xs i x) (xs ++ x ∷ []))) same
    ∙ elim (nat_lt i (length ys)) as
    (λ b. length (cond b (slice_set xs i x) (xs ++ x ∷ [])) ≡ length (cond b (slice_set ys i y) (ys ++ y ∷ []))) [
      | true ↦ length-set xs i x ∙ same ∙ sym (length-set ys i y)
      | false ↦ omega (arith, same, length-append xs (x ∷ []), length-append ys (y ∷ []))
    ]

pub put_mapped : {A B : Type 0} (f : A → B) (xs : List A) (i : ℕ) (x : A) → map_list f (put_at xs i x) ≡ put_at (map_list f xs) i (f x)
put_mapped f xs i x =
    elim (nat_lt i (length xs)) as
    (λ b. map_list f (cond b (slice_set xs i x) (xs ++ x ∷ [])) ≡ cond b (slice_set (map_list f xs) i (f x)) (map_list f xs ++ f x ∷ [])) [
      | true ↦ map-set f xs i x
      | false ↦ map_push f xs x
    ]
    ∙ ap (λ n. cond (nat_lt i n) (slice_set (map_list f xs) i (f x)) (map_list f xs ++ f x ∷ [])) (sym (length-map xs f))

-- ---- the place of a new cgroup

pub place_fits : (links : List Link) (left : Option ℕ) → place_for links left ≤ length links
place_fits links None = omega arith
place_fits links (Some k) =
    elim (nat_lt k (length links)) as
    (λ b. nat_lt k (length links) ≡ b → cond (b && not (nat_lt (link_at links k).above (length links))) k (length links) ≤ length links) [
      | true ↦ λ e.
          let within = ltb-true k (length links) e in
          elim (nat_lt (link_at links k).above (length links)) as (λ b. cond (true && not b) k (length links) ≤ length links)
          [ true ↦ omega arith | false ↦ omega (arith, within) ]
      | false ↦ λ e. omega arith
    ] refl

-- no path has it, since the parent of each path has a place
pub nobodys : (places : FinMap path_cmp ℕ) (links : List Link) → ArePlaced places links → (left : Option ℕ) (k : ℕ)
    → k ≡ place_for links left → (q : Names) (j : ℕ) → map.get places q ≡ Some j → j ≢ k
nobodys places links placed None k place q j has same = let here = placed.within q j has in omega (arith, here, same, place)
nobodys places links placed (Some i) k place q j has same =
    let here = placed.within q j has in
    let up = placed.within (parent q) _ (placed.above q j has) in
    elim (is_vacant links i) as (λ b. is_vacant links i ≡ b → j ≡ cond b i (length links) → ⊥) [
      | true ↦ λ e is.
          let leads : (link_at links i).above < length links = omega (arith, up, ap (λ n. (link_at links n).above) is) in
          true≢false (sym e ∙ ap (λ b. nat_lt i (length links) && not b) (lt-ltb (link_at links i).above (length links) leads)
          ∙ neither (nat_lt i (length links)))
      | false ↦ λ e is. omega (arith, here, is)
    ] refl (same ∙ place)
  where
    neither : (b : Bool) → (b && false) ≡ false
    neither true = refl
    neither false = refl
