-- A climb from a place to the root, and what it leaves.
use Rattle.std.proofs.Common.{◌≡◌, ℕ, zero, suc, ◌+◌, ◌-◌, ◌<◌, ◌≢◌, Bool, true, false, cond, ◌&&◌, nat_lt, List, [], ◌∷◌, length, take, refl, sym, ap, ◌∙◌, Some, arith, ◌⊎◌, ⊎_elim, inl, inr, take-take}
use Rattle.std.specs.Prelude.{slice_set}
use Rattle.std.proofs.lemmas.Bool.{cases_eq, lt-ltb, ltb-true, cases_Bool}
use Rattle.std.proofs.lemmas.Bool.Decides.{same_from_decides}
use Rattle.std.proofs.lemmas.List.{get_or-set_same, get_or-set_other, length-set, length-take, take_all}
use Rattle.std.specs.FinMap as map
use Rattle.std.specs.FinMap.{FinMap}
use Rattle.cg_cgroup.specs.Paths.{Names, path_cmp, same_path, inside, below, parent, is_root}
use Rattle.cg_cgroup.proofs.PathOrder.{same_path-is, same_path-other}
use Rattle.cg_cgroup.proofs.PathParents.{length-parent, is_root-is}
use Rattle.cg_cgroup.proofs.PathLaws.{inside_refl, inside_decides, inside-length}
use Rattle.cg_cgroup.proofs.Options.{same_some}
use Rattle.cg_places.specs.Links.{no_link, link_at, ArePlaced, changed_up, tallied_link, tallied_up}
use Rattle.cg_places.specs.declared.links.Link.{Link}
use Rattle.cg_places.specs.declared.links.Tally.{Tally}

-- ---- inside a path and inside its parent

not_inside_longer : (p q : Names) → length q < length p → inside p q ≡ false
not_inside_longer p q short =
    elim (inside p q) as (λ b. inside p q ≡ b → b ≡ false)
    [ true ↦ λ e. let long = inside-length p q e in absurd (omega arith) | false ↦ λ e. refl ] refl

pub not_inside_parent : (p : Names) → is_root p ≡ false → inside p (parent p) ≡ false
not_inside_parent p h = let level = length-parent p h in not_inside_longer p (parent p) (omega arith)

-- what is inside a path is inside its parent, but for the path itself
pub inside_parent : (q p : Names) → is_root p ≡ false → q ≢ p → inside q p ≡ inside q (parent p)
inside_parent q p h apart =
    same_from_decides (inside q p) (inside q (parent p)) (inside_decides q p)
    ((λ e. up ((inside_decides q (parent p)).0 e)), (λ e. (inside_decides q (parent p)).1 (down e)))
  where
    level : length p - 1 + 1 ≡ length p
    level = omega (arith, length-parent p h)

    up : q ≡ take (length q) (parent p) → q ≡ take (length q) p
    up e =
        let size = ap length e ∙ length-take (length q) (parent p) in
        let size2 = length-parent p h in
        e ∙ take-take (length q) (length p - 1) p (omega arith)

    down : q ≡ take (length q) p → q ≡ take (length q) (parent p)
    down e =
        let size = ap length e ∙ length-take (length q) p in
        ⊎_elim
        (λ (same : length q ≡ length p). absurd (apart (e ∙ take_all (length q) p (omega arith))))
        (λ (other : length q ≡ length p → ⊥). e ∙ sym (take-take (length q) (length p - 1) p (omega (arith, level))))
        (cases_eq (length q) (length p))

nat_lt-self : (n : ℕ) → nat_lt n n ≡ false
nat_lt-self n =
    elim (nat_lt n n) as (λ b. nat_lt n n ≡ b → b ≡ false)
    [ true ↦ λ e. let l = ltb-true n n e in absurd (omega arith) | false ↦ λ e. refl ] refl

pub below_parent : (q p : Names) → is_root p ≡ false → below q p ≡ inside q (parent p)
below_parent q p h =
    elim (same_path q p) as (λ b. same_path q p ≡ b → below q p ≡ inside q (parent p)) [
      | true ↦ λ e. let is = same_path-is q p e in
          ap (λ x. below x p) is ∙ not_below ∙ sym (not_inside_parent p h) ∙ ap (λ x. inside x (parent p)) (sym is)
      | false ↦ λ e.
          let apart = same_path-other q p e in
          ⊎_elim
          (λ (no : inside q p ≡ false). ap (λ b. b && nat_lt (length q) (length p)) no ∙ sym no ∙ inside_parent q p h apart)
          (λ (yes : inside q p ≡ true).
          let e = (inside_decides q p).0 yes in
          let size = inside-length q p yes in
          let shorter : length q < length p =
          ⊎_elim (λ (same : length q ≡ length p). absurd (apart (e ∙ take_all (length q) p (omega arith))))
          (λ (other : length q ≡ length p → ⊥). omega arith) (cases_eq (length q) (length p)) in
          ap (λ b. inside q p && b) (lt-ltb (length q) (length p) shorter) ∙ ap (λ b. b && true) yes ∙ sym yes
          ∙ inside_parent q p h apart) (either (inside q p))
    ] refl
  where
    either : (b : Bool) → (b ≡ false) ⊎ (b ≡ true)
    either b = ⊎_elim (λ e. inr e) (λ e. inl e) (cases_Bool b)

    not_below : below p p ≡ false
    not_below = ap (λ b. inside p p && b) (nat_lt-self (length p)) ∙ ap (λ b. b && false) (inside_refl p)

-- ---- a change at a place, and above it, that leaves the links

module _ (f : Link → Link) (keeps : (n : Link) → (f n).above ≡ n.above) where
  abbrev bumped : List Link → ℕ → List Link
  bumped links i = slice_set links i (f (link_at links i))

  module _ (links : List Link) (i : ℕ) (within : i < length links) where
    at_bumped : (j : ℕ) → j ≡ i → link_at (bumped links i) j ≡ f (link_at links j)
    at_bumped j same =
        ap (link_at (bumped links i)) same ∙ get_or-set_same links i (f (link_at links i)) no_link within
        ∙ ap (λ k. f (link_at links k)) (sym same)

    past_bumped : (j : ℕ) → j ≢ i → link_at (bumped links i) j ≡ link_at links j
    past_bumped j other = get_or-set_other links i j (f (link_at links i)) no_link other

    -- what one more keeps of a node is as it was
    kept_bumped : {A : Type 0} (g : Link → A) → ((n : Link) → g (f n) ≡ g n) → (j : ℕ)
        → g (link_at (bumped links i) j) ≡ g (link_at links j)
    kept_bumped g same_g j =
        ⊎_elim (λ same. ap g (at_bumped j same) ∙ same_g (link_at links j)) (λ other. ap g (past_bumped j other)) (cases_eq j i)

  pub changed_length : (n i : ℕ) (links : List Link) → length (changed_up f links i n) ≡ length links
  changed_length zero i links = refl
  changed_length (suc n) i links =
      elim (nat_lt i (length links)) as
      (λ b. length (cond b (changed_up f (bumped links i) (link_at links i).above n) links) ≡ length links) [
        | true ↦ changed_length n (link_at links i).above (bumped links i) ∙ length-set links i (f (link_at links i))
        | false ↦ refl
      ]

  module _ (places : FinMap path_cmp ℕ) where
    pub placed_bumped : (links : List Link) (i : ℕ) → i < length links → ArePlaced places links → ArePlaced places (bumped links i)
    placed_bumped links i l placed = record {
      within = λ p j is. let h = placed.within p j is in omega (arith, h, length-set links i (f (link_at links i)));
      apart = placed.apart;
      above = λ p j is. placed.above p j is ∙ ap Some (sym (kept_bumped links i l (λ n. n.above) keeps j));
    }

    pub placed_changed : (n i : ℕ) (links : List Link) → ArePlaced places links → ArePlaced places (changed_up f links i n)
    placed_changed zero i links placed = placed
    placed_changed (suc n) i links placed =
        elim (nat_lt i (length links)) as
        (λ b. nat_lt i (length links) ≡ b → ArePlaced places (cond b (changed_up f (bumped links i) (link_at links i).above n) links)) [
          | true ↦
              λ e. placed_changed n (link_at links i).above (bumped links i) (placed_bumped links i (ltb-true i (length links) e) placed)
          | false ↦ λ e. placed
        ] refl

    changed_turn : (n i : ℕ) (links : List Link) → i < length links
        → changed_up f links i (suc n) ≡ changed_up f (bumped links i) (link_at links i).above n
    changed_turn n i links l = ap (λ b. cond b (changed_up f (bumped links i) (link_at links i).above n) links) (lt-ltb i (length links) l)

    -- a climb counts one more at each path that the path is inside, and nowhere else
    pub changed_at : (n : ℕ) (p : Names) (i : ℕ) (links : List Link) → ArePlaced places links → map.get places p ≡ Some i → length p + 1 ≡ n
        → (q : Names) (j : ℕ) → map.get places q ≡ Some j
        → link_at (changed_up f links i n) j ≡ cond (inside q p) (f (link_at links j)) (link_at links j)
    changed_at zero p i links placed is size q j has = absurd (omega arith)
    changed_at (suc n) p i links placed is size q j has =
        let l = placed.within p i is in
        let deeper =
        λ (root : is_root p ≡ false). changed_at n (parent p) (link_at links i).above (bumped links i) (placed_bumped links i l placed)
        (placed.above p i is) (omega (arith, length-parent p root)) q j has in
        ap (λ ns. link_at ns j) (changed_turn n i links l)
        ∙ elim (same_path q p) as (λ b. same_path q p ≡ b → link_at (changed_up f (bumped links i) (link_at links i).above n) j
        ≡ cond (inside q p) (f (link_at links j)) (link_at links j)) [
          | true ↦ λ e.
              let is_p = same_path-is q p e in
              let same : j ≡ i = same_some j i (sym has ∙ ap (map.get places) is_p ∙ is) in
              here deeper is_p ∙ at_bumped links i l j same
              ∙ ap (λ b. cond b (f (link_at links j)) (link_at links j)) (sym (inside_refl p) ∙ ap (λ x. inside x p) (sym is_p))
          | false ↦ λ e.
              let apart = same_path-other q p e in
              there deeper apart (λ same. apart (placed.apart q p i (has ∙ ap Some same) is))
        ] refl
      where
        root_size : is_root p ≡ true → n ≡ 0
        root_size root = omega (arith, ap length (is_root-is p root))

        not_in_root : (x : Names) → x ≢ [] → inside x [] ≡ false
        not_in_root [] other = absurd (other refl)
        not_in_root (name ∷ x) other = refl

        -- the rest of the climb leaves the path's own place
        here : (is_root p ≡ false → link_at (changed_up f (bumped links i) (link_at links i).above n) j
            ≡ cond (inside q (parent p)) (f (link_at (bumped links i) j)) (link_at (bumped links i) j))
            → q ≡ p → link_at (changed_up f (bumped links i) (link_at links i).above n) j ≡ link_at (bumped links i) j
        here deeper is_p =
            elim (is_root p) as
            (λ b. is_root p ≡ b → link_at (changed_up f (bumped links i) (link_at links i).above n) j ≡ link_at (bumped links i) j) [
              | true ↦ λ root. ap (λ m. link_at (changed_up f (bumped links i) (link_at links i).above m) j) (root_size root)
              | false ↦ λ root.
                  deeper root ∙ ap (λ b. cond b (f (link_at (bumped links i) j)) (link_at (bumped links i) j))
                  (ap (λ x. inside x (parent p)) is_p ∙ not_inside_parent p root)
            ] refl

        there : (is_root p ≡ false → link_at (changed_up f (bumped links i) (link_at links i).above n) j
            ≡ cond (inside q (parent p)) (f (link_at (bumped links i) j)) (link_at (bumped links i) j))
            → q ≢ p → j ≢ i → link_at (changed_up f (bumped links i) (link_at links i).above n) j
            ≡ cond (inside q p) (f (link_at links j)) (link_at links j)
        there deeper apart other =
            let past = past_bumped links i (placed.within p i is) j other in
            elim (is_root p) as (λ b. is_root p ≡ b → link_at (changed_up f (bumped links i) (link_at links i).above n) j
            ≡ cond (inside q p) (f (link_at links j)) (link_at links j)) [
              | true ↦ λ root.
                  ap (λ m. link_at (changed_up f (bumped links i) (link_at links i).above m) j) (root_size root) ∙ past
                  ∙ ap (λ b. cond b (f (link_at links j)) (link_at links j))
                  (sym (ap (inside q) (is_root-is p root) ∙ not_in_root q (λ e. apart (e ∙ sym (is_root-is p root)))))
              | false ↦ λ root. deeper root ∙ (λ k. cond (sym (inside_parent q p root apart) k) (f (past k)) (past k))
            ] refl

    -- what the change leaves of a link, the climb leaves of each
    pub changed_keeps : {A : Type 0} (g : Link → A) → ((link : Link) → g (f link) ≡ g link)
        → (n : ℕ) (p : Names) (i : ℕ) (links : List Link) → ArePlaced places links → map.get places p ≡ Some i → length p + 1 ≡ n
        → (q : Names) (j : ℕ) → map.get places q ≡ Some j → g (link_at (changed_up f links i n) j) ≡ g (link_at links j)
    changed_keeps g same n p i links placed is size q j has =
        ap g (changed_at n p i links placed is size q j has) ∙ elim (inside q p) as
        (λ b. g (cond b (f (link_at links j)) (link_at links j)) ≡ g (link_at links j)) [ true ↦ same (link_at links j) | false ↦ refl ]

-- a tally at the parent of a path and above it
module _ (places : FinMap path_cmp ℕ) (links : List Link) (placed : ArePlaced places links) (p : Names) (root : is_root p ≡ false) (i : ℕ)
    (is : map.get places (parent p) ≡ Some i) (tally : Tally) where
  pub link_tallied : (q : Names) (j : ℕ) → map.get places q ≡ Some j → link_at (tallied_up tally links i (length p)) j
      ≡ cond (inside q (parent p)) (tallied_link tally (link_at links j)) (link_at links j)
  link_tallied =
      changed_at (tallied_link tally) (λ n. refl) places (length p) (parent p) i links placed is (length-parent p root)

  pub tallied_keeps : {A : Type 0} (g : Link → A) → ((l : Link) → g (tallied_link tally l) ≡ g l) → (q : Names) (j : ℕ)
      → map.get places q ≡ Some j → g (link_at (tallied_up tally links i (length p)) j) ≡ g (link_at links j)
  tallied_keeps g same =
      changed_keeps (tallied_link tally) (λ n. refl) places g same (length p) (parent p) i links placed is (length-parent p root)
