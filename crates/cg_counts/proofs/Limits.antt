-- A climb finds the nearest cgroup whose limits bar a child.
use Rattle.std.proofs.Common.{◌≡◌, ◌≢◌, ℕ, zero, suc, ◌-◌, ◌<◌, ◌≤◌, true, false, cond, List, length, take, refl, sym, ap, ◌∙◌, subst, Some, None, Option, arith, take-take, ⊎_elim}
use Rattle.std.specs.Option.{MatchOption}
use Rattle.std.proofs.lemmas.Bool.{lt-ltb, cases_eq}
use Rattle.std.proofs.lemmas.List.{length-take-le}
use Rattle.std.specs.FinMap as map
use Rattle.std.specs.FinMap.{FinMap}
use Rattle.cg_cgroup.specs.Paths.{Names, path_cmp, parent}
use Rattle.cg_model.specs.States.{State}
use Rattle.cg_model.specs.NearestFull.{is_full, NoneIsFull, IsNearestFull}
use Rattle.cg_places.specs.Links.{link_at, ArePlaced, is_full_link, climbed}
use Rattle.cg_places.specs.declared.links.Link.{Link}

pub parent_take : (q : Names) (n : ℕ) → n < length q → parent (take (suc n) q) ≡ take n q
parent_take q n h =
    let shorter : length (take (suc n) q) - 1 ≡ n = omega (arith, length-take-le (suc n) q (omega arith)) in
    ap (λ k. take k (take (suc n) q)) shorter ∙ take-take n (suc n) q (omega arith)

module _ (places : FinMap path_cmp ℕ) (links : List Link) (placed : ArePlaced places links) (st : State) (path : Names) (len : ℕ)
    (full : (k at : ℕ) → map.get places (take k path) ≡ Some at → is_full_link (link_at links at) (len - k) ≡ is_full st path len k) where
  -- what a climb over the first `k` names answers
  abbrev Answers : ℕ → Option ℕ → Type 0
  Answers k found =
      MatchOption found ((j : ℕ) → j ≤ k → is_full st path len j ≡ false)
      (λ n. (n ≤ k) × (is_full st path len n ≡ true) × ((j : ℕ) → n < j → j ≤ k → is_full st path len j ≡ false))

  here : (k : ℕ) (rest : Option ℕ) → (is_full st path len k ≡ false → Answers k rest)
      → Answers k (cond (is_full st path len k) (Some k) rest)
  here k rest further = elim (is_full st path len k) as (λ b. is_full st path len k ≡ b → Answers k (cond b (Some k) rest)) [
    | true ↦ λ e. (omega arith, e, λ j h l. absurd (omega arith))
    | false ↦ λ e. further e
  ] refl

  further : (k : ℕ) (rest : Option ℕ) → is_full st path len (suc k) ≡ false → Answers k rest → Answers (suc k) rest
  further k None free none =
      λ j l.
      ⊎_elim (λ (same : j ≡ suc k). ap (is_full st path len) same ∙ free) (λ (other : j ≢ suc k). none j (omega arith)) (cases_eq j (suc k))
  further k (Some n) free some = (
    let l = some.0 in omega arith,
    some.1,
    λ j h l. ⊎_elim (λ (same : j ≡ suc k). ap (is_full st path len) same ∙ free)
        (λ (other : j ≢ suc k). some.2 j h (omega arith)) (cases_eq j (suc k)),
  )

  climb_is : (k at : ℕ) → k ≤ length path → map.get places (take k path) ≡ Some at → Answers k (climbed links len at k)
  climb_is zero at short is =
      let l = lt-ltb at (length links) (placed.within (take 0 path) at is) in
      let all : len ≡ len - 0 = omega arith in
      let found : is_full_link (link_at links at) len ≡ is_full st path len 0 = ap (is_full_link (link_at links at)) all ∙ full 0 at is in
      subst (Answers 0)
      (sym (ap (λ b. cond b (cond (is_full_link (link_at links at) len) (Some 0) None) None) l ∙ ap (λ b. cond b (Some 0) None) found))
      (here 0 None (λ e j low. ap (is_full st path len) (let z : j ≡ 0 = omega arith in z) ∙ e))
  climb_is (suc k) at short is =
      let l = lt-ltb at (length links) (placed.within (take (suc k) path) at is) in
      let up = ap (map.get places) (sym (parent_take path k (omega arith))) ∙ placed.above (take (suc k) path) at is in
      subst (Answers (suc k))
      (sym (ap (λ b.
      cond b (cond (is_full_link (link_at links at) (len - suc k)) (Some (suc k)) (climbed links len (link_at links at).above k))
      None) l
      ∙ ap (λ b. cond b (Some (suc k)) (climbed links len (link_at links at).above k)) (full (suc k) at is)))
      (here (suc k) (climbed links len (link_at links at).above k)
      (λ e. further k (climbed links len (link_at links at).above k) e (climb_is k (link_at links at).above (omega arith) up)))

  pub climb_finds : (at : ℕ) → len ≤ length path → map.get places (take len path) ≡ Some at
      → MatchOption (climbed links len at len) (NoneIsFull st path len) (IsNearestFull st path len)
  climb_finds at short is = told (climbed links len at len) (climb_is len at short is)
    where
      told : (found : Option ℕ) → Answers len found → MatchOption found (NoneIsFull st path len) (IsNearestFull st path len)
      told None none = none
      told (Some n) some = record { within = some.0; full = some.1; nearer = some.2 }
