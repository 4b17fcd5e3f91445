-- A tree taken over from rows: its cgroups one by one as their paths rise, and then its processes.
use Rattle.std.proofs.Common.{◌≡◌, ℕ, ◌+◌, ◌<◌, ◌≤◌, Bool, true, false, not, cond, ◌||◌, List, [], ◌∷◌, Option, Some, None, is_some, option_map, length, drop, refl, sym, ap, ◌∙◌, true≢false, arith}
use Rattle.std.specs.Prelude.{slice_index_or}
use Rattle.std.proofs.lemmas.Bool.{and_parts}
use Rattle.std.proofs.lemmas.List.{drop_more}
use Rattle.std.specs.declared.cmp.Ordering.{Ordering}
use Rattle.std.specs.declared.cmp.Ordering.TheVariants.{Less, Equal, Greater}
use Rattle.std.specs.Ordering.{is_eq, is_lt, is_gt, eq_by_cmp, ordering_reverse}
use Rattle.std.specs.FinMap as map
use Rattle.std.specs.FinMap.{FinMap, find}
use Rattle.std.specs.FinMap.Entries.{is_sorted, below_all}
use Rattle.cg_cgroup.specs.Paths.{Names, path_cmp, same_path, is_root, parent}
use Rattle.cg_cgroup.specs.declared.cgroup.Cgroup.{Cgroup}
use Rattle.cg_cgroup.specs.declared.process.Process.{Process}
use Rattle.cg_cgroup.proofs.PathOrder.{path_cmp_total, same_path-ties, same_path-is, same_path_refl, same_path_comm}
use Rattle.cg_cgroup.proofs.PathParents.{inside-take, is_root-is, parent-other}
use Rattle.cg_cgroup.proofs.PathLaws.{inside-first}
use Rattle.cg_cgroup.proofs.Options.{mapped_from, is_some-mapped}
use Rattle.cg_model.specs.States.{State}
use Rattle.cg_model.specs.WellFormed.{IsWellFormed, has_row}
use Rattle.cg_model.proofs.MapFolds.{gathered}
use Rattle.cg_rows.proofs.Sorted.{holds_true}
use Rattle.cg_places.specs.Values.{map_values}
use Rattle.cg_counts.specs.Kept.{Held, new_held, tree_of, cgroups_of, change_held, tallied_held}
use Rattle.cg_indexed.specs.Indexed.{count_live}
use Rattle.cg_model.proofs.StateCounts.{one_more}
use Rattle.cg_places.specs.declared.links.Tally.TheVariants.{More}
use Rattle.cg_places.proofs.Values.{get-mapped, same_maps, get-put}
use Rattle.cg_indexed.proofs.Living.{AreCounted, at, gathered_live, few_live, none_live, get-change_held}
use Rattle.cg_indexed.proofs.States.{cgroups_same}

-- ---- entries whose keys rise

reversed_less : (r : Ordering) → is_lt r ≡ true → is_gt (ordering_reverse r) ≡ true
reversed_less Less h = refl
reversed_less Equal h = absurd (true≢false (sym h))
reversed_less Greater h = absurd (true≢false (sym h))

tied_first : (r : Ordering) → is_eq r ≡ true → is_gt r ≡ false
tied_first Less h = refl
tied_first Equal h = refl
tied_first Greater h = absurd (true≢false (sym h))

tied_itself : (k : Names) → eq_by_cmp path_cmp k k ≡ true
tied_itself k = sym (same_path-ties k k) ∙ same_path_refl k

-- what doesn't come behind a key isn't found behind it
find_behind : {X : Type 0} (q k : Names) (es : List (Names × X)) → is_gt (path_cmp q k) ≡ false → below_all path_cmp k es ≡ true
    → find path_cmp q es ≡ None
find_behind q k [] first behind = refl
find_behind q k (e ∷ es) first behind =
    let both = and_parts _ _ behind in
    elim (eq_by_cmp path_cmp q e.0) as (λ b. eq_by_cmp path_cmp q e.0 ≡ b → cond b (Some e.1) (find path_cmp q es) ≡ None) [
      | true ↦ λ tied.
          let less : is_lt (path_cmp k q) ≡ true =
          ap (λ x. is_lt (path_cmp k x)) (same_path-is q e.0 (same_path-ties q e.0 ∙ tied)) ∙ both.0 in
          absurd (true≢false (sym (reversed_less _ less) ∙ ap is_gt (sym (path_cmp_total.antisymm q k)) ∙ first))
      | false ↦ λ other. find_behind q k es first both.1
    ] refl

found_more : {X : Type 0} (q k : Names) (v row : X) (es : List (Names × X)) → below_all path_cmp k es ≡ true → find path_cmp q es ≡ Some row
    → find path_cmp q ((k, v) ∷ es) ≡ Some row
found_more q k v row es behind is =
    elim (eq_by_cmp path_cmp q k) as (λ b. eq_by_cmp path_cmp q k ≡ b → cond b (Some v) (find path_cmp q es) ≡ Some row) [
      | true ↦ λ tied. absurd (true≢false (ap is_some (sym is ∙ find_behind q k es (tied_first _ tied) behind)))
      | false ↦ λ other. is
    ] refl

-- the rest of a list, one step on
pub rest_of : {X : Type 0} (items : List X) (i : ℕ) (item : X) → i < length items → item ≡ slice_index_or items i item
    → drop i items ≡ item ∷ drop (i + 1) items
rest_of items i item l is = drop_more items i item l ∙ ap (λ x. x ∷ drop (i + 1) items) (sym is)

-- ---- the cgroups

pub long_no_root : (p : Names) (n : ℕ) → n ≡ length p → 0 < n → is_root p ≡ false
long_no_root [] n is l = absurd (omega (arith, is, l))
long_no_root (name ∷ p) n is l = refl

pub short_root : (p : Names) (n : ℕ) → n ≡ length p → n ≤ 0 → is_root p ≡ true
short_root [] n is l = refl
short_root (name ∷ p) n is l = absurd (omega (arith, is, l))

has_held : (held : FinMap path_cmp Held) (q : Names) → has_row (tree_of held) q ≡ is_some (map.get held q)
has_held held q = ap is_some (get-mapped (λ (h : Held). h.cgroup) held q) ∙ is_some-mapped (λ (h : Held). h.cgroup) (map.get held q)

-- the root, and the rows that come before the rest, are taken
pub record AreTaken (rows : FinMap path_cmp Cgroup) (held : FinMap path_cmp Held) (rest : List (Names × Cgroup)) : Type 0 where
  pub sorted : is_sorted path_cmp rest ≡ true
  pub there : (q : Names) (row : Cgroup) → find path_cmp q rest ≡ Some row → map.get rows q ≡ Some row
  pub taken : (q : Names)
      → map.get held q ≡ cond (is_root q || not (is_some (find path_cmp q rest))) (option_map new_held (map.get rows q)) None

pub taken_root : (rows : FinMap path_cmp Cgroup) (held : FinMap path_cmp Held) (rest : List (Names × Cgroup)) (root : Cgroup)
    → Some root ≡ map.get rows [] → held ≡ map.insert map.empty [] (new_held root) → rest ≡ map.entries rows
    → AreTaken rows held rest
taken_root rows held rest root is new all = record {
  sorted = ap (is_sorted path_cmp) all ∙ holds_true _ (map.entries_sorted rows);
  there = λ q row found. map.get-entries rows q ∙ ap (find path_cmp q) (sym all) ∙ found;
  taken =
      λ q. ap (λ (m : FinMap path_cmp Held). map.get m q) new ∙ get-put map.empty [] (new_held root) q
      ∙ ap (cond (same_path q []) (Some (new_held root))) (map.get-empty path_cmp q) ∙ first q
      ∙ ap (λ o. cond (is_root q || not (is_some o)) (option_map new_held (map.get rows q)) None)
      (map.get-entries rows q ∙ ap (find path_cmp q) (sym all));
}
  where
    first : (q : Names) → cond (same_path q []) (Some (new_held root)) None
        ≡ cond (is_root q || not (is_some (map.get rows q))) (option_map new_held (map.get rows q)) None
    first [] = ap (option_map new_held) is
    first (name ∷ q) =
        elim (map.get rows (name ∷ q)) as (λ o. None ≡ cond (not (is_some o)) (option_map new_held o) None)
        [ None ↦ refl | Some row ↦ refl ]

module _ (rows : FinMap path_cmp Cgroup) (held : FinMap path_cmp Held) (k : Names) (v : Cgroup) (next : List (Names × Cgroup))
    (so_far : AreTaken rows held ((k, v) ∷ next)) where
  behind : below_all path_cmp k next ≡ true
  behind = (and_parts _ _ so_far.sorted).0

  still_there : (q : Names) (row : Cgroup) → find path_cmp q next ≡ Some row → map.get rows q ≡ Some row
  still_there q row is = so_far.there q row (found_more q k v row next behind is)

  own : map.get rows k ≡ Some v
  own = so_far.there k v (ap (λ b. cond b (Some v) (find path_cmp k next)) (tied_itself k))

  none_behind : find path_cmp k next ≡ None
  none_behind = find_behind k k next (tied_first _ (tied_itself k)) behind

  -- the root was taken first
  pub taken_already : is_root k ≡ true → AreTaken rows held next
  taken_already root = record {
    sorted = (and_parts _ _ so_far.sorted).1;
    there = still_there;
    taken = λ q. so_far.taken q ∙ same q;
  }
    where
      same : (q : Names) → cond (is_root q || not (is_some (find path_cmp q ((k, v) ∷ next)))) (option_map new_held (map.get rows q)) None
          ≡ cond (is_root q || not (is_some (find path_cmp q next))) (option_map new_held (map.get rows q)) None
      same [] = refl
      same (name ∷ q) =
          ap (λ x. cond (not (is_some (cond (eq_by_cmp path_cmp (name ∷ q) x) (Some v) (find path_cmp (name ∷ q) next))))
          (option_map new_held (map.get rows (name ∷ q))) None) (is_root-is k root)

  module _ (not_root : is_root k ≡ false) where
    pub taken_absent : has_row (tree_of held) k ≡ false
    taken_absent = has_held held k ∙ ap is_some (so_far.taken k)
        ∙ (λ i. is_some (cond (not_root i || not (is_some (cond (tied_itself k i) (Some v) (find path_cmp k next))))
        (option_map new_held (map.get rows k)) None))

    pub taken_parent : (st : State) → IsWellFormed st → rows ≡ st.rows → has_row (tree_of held) (parent k) ≡ true
    taken_parent st formed same =
        let other : eq_by_cmp path_cmp (parent k) k ≡ false =
        sym (same_path-ties (parent k) k) ∙ same_path_comm (parent k) k ∙ parent-other k not_root in
        let before : find path_cmp (parent k) ((k, v) ∷ next) ≡ None =
        ap (λ b. cond b (Some v) (find path_cmp (parent k) next)) other
        ∙ find_behind (parent k) k next (inside-first (parent k) k (inside-take _ k)) behind in
        has_held held (parent k) ∙ ap is_some (so_far.taken (parent k)
        ∙ ap (λ o. cond (is_root (parent k) || not (is_some o)) (option_map new_held (map.get rows (parent k))) None) before
        ∙ either (is_root (parent k)) _)
        ∙ is_some-mapped new_held (map.get rows (parent k)) ∙ ap (λ (m : FinMap path_cmp Cgroup). is_some (map.get m (parent k))) same
        ∙ formed.parents k (ap (λ (m : FinMap path_cmp Cgroup). is_some (map.get m k)) (sym same) ∙ ap is_some own)
      where
        either : {A : Type 0} (b : Bool) (o : Option A) → cond (b || true) o None ≡ o
        either true o = refl
        either false o = refl

    pub taken_more : (more : FinMap path_cmp Held) → more ≡ map.insert held k (new_held v) → AreTaken rows more next
    taken_more more new = record {
      sorted = (and_parts _ _ so_far.sorted).1;
      there = still_there;
      taken = λ q. ap (λ (m : FinMap path_cmp Held). map.get m q) new ∙ get-put held k (new_held v) q
          ∙ elim (same_path q k) as (λ b. same_path q k ≡ b → cond b (Some (new_held v)) (map.get held q)
          ≡ cond (is_root q || not (is_some (find path_cmp q next))) (option_map new_held (map.get rows q)) None) [
            | true ↦
                λ same. sym (ap (λ x. cond (is_root x || not (is_some (find path_cmp x next))) (option_map new_held (map.get rows x)) None)
                (same_path-is q k same) ∙ at_own)
            | false ↦ λ other. so_far.taken q
                ∙ ap (λ b.
                cond (is_root q || not (is_some (cond b (Some v) (find path_cmp q next)))) (option_map new_held (map.get rows q)) None)
                (sym (same_path-ties q k) ∙ other)
          ] refl;
    }
      where
        at_own : cond (is_root k || not (is_some (find path_cmp k next))) (option_map new_held (map.get rows k)) None ≡ Some (new_held v)
        at_own = λ i. cond (not_root i || not (is_some (none_behind i))) (option_map new_held (own i)) None

pub taken_all : (rows : FinMap path_cmp Cgroup) (held : FinMap path_cmp Held) (rest : List (Names × Cgroup)) → AreTaken rows held rest
    → rest ≡ [] → held ≡ map_values new_held rows
taken_all rows held rest so_far none = same_maps _ _ (λ q.
    so_far.taken q ∙ ap (λ es. cond (is_root q || not (is_some (find path_cmp q es))) (option_map new_held (map.get rows q)) None) none
    ∙ all (is_root q) _ ∙ sym (get-mapped new_held rows q))
  where
    all : {A : Type 0} (b : Bool) (o : Option A) → cond (b || true) o None ≡ o
    all true o = refl
    all false o = refl

-- ---- the processes

-- the processes are counted at their cgroups but for the rest
pub record AreRaised (st : State) (held : FinMap path_cmp Held) (rest : List (ℕ × Process)) : Type 0 where
  pub cgroups : cgroups_of held ≡ st.rows
  pub few : (q : Names) → gathered (one_more (at q)) 0 rest ≤ count_live st.live q
  pub counted : (q : Names) (h : Held) → map.get held q ≡ Some h → h.live + gathered (one_more (at q)) 0 rest ≡ count_live st.live q

pub raised_none : (st : State) (held : FinMap path_cmp Held) (rest : List (ℕ × Process)) → held ≡ map_values new_held st.rows
    → rest ≡ map.entries st.live → AreRaised st held rest
raised_none st held rest new all = record {
  cgroups =
      ap cgroups_of new ∙ same_maps _ _ (λ q. get-mapped (λ (h : Held). h.cgroup) (map_values new_held st.rows) q
      ∙ ap (option_map (λ (h : Held). h.cgroup)) (get-mapped new_held st.rows q) ∙ back (map.get st.rows q));
  few = λ q. let whole = each q in omega (arith, whole);
  counted = λ q h is.
      let found =
      mapped_from new_held (map.get st.rows q) h
      (sym (ap (λ (m : FinMap path_cmp Held). map.get m q) new ∙ get-mapped new_held st.rows q) ∙ is) in
      let new_live : h.live ≡ 0 = ap (λ (k : Held). k.live) (sym found.2) in
      let whole = each q in
      omega (arith, new_live, whole);
}
  where
    each : (q : Names) → gathered (one_more (at q)) 0 rest ≡ count_live st.live q
    each q = ap (gathered (one_more (at q)) 0) all ∙ gathered_live st.live q

    back : (o : Option Cgroup) → option_map (λ (h : Held). h.cgroup) (option_map new_held o) ≡ o
    back None = refl
    back (Some row) = refl

module _ (st : State) (held : FinMap path_cmp Held) (pid : ℕ) (process : Process) (next : List (ℕ × Process))
    (so_far : AreRaised st held ((pid, process) ∷ next)) where
  pub raised_home : IsWellFormed st → has_row (tree_of held) process.place ≡ true
  raised_home formed =
      ap (λ (m : FinMap path_cmp Cgroup). is_some (map.get m process.place)) so_far.cgroups
      ∙ elim (has_row st process.place) as (λ b. has_row st process.place ≡ b → b ≡ true) [
        | true ↦ λ e. refl
        | false ↦ λ absent.
            let one : gathered (one_more (at process.place)) 0 ((pid, process) ∷ next) ≡ 1 + gathered (one_more (at process.place)) 0 next =
            ap (λ b. cond b (1 + gathered (one_more (at process.place)) 0 next) (gathered (one_more (at process.place)) 0 next))
            (same_path_refl process.place) in
            absurd (omega (arith, one, so_far.few process.place, none_live st formed process.place absent))
      ] refl

  pub raised_more : map.len st.live < 9223372036854775808 → (more : FinMap path_cmp Held)
      → more ≡ change_held held process.place (tallied_held More) → AreRaised st more next
  raised_more small more new = record {
    cgroups = ap cgroups_of new ∙ cgroups_same held process.place (tallied_held More) (λ h. refl) ∙ so_far.cgroups;
    few = λ q. let most = so_far.few q in fewer (same_path process.place q) _ _ most;
    counted =
        λ q h is. raised q h (same_path process.place q) (so_far.counted q)
        (sym (ap (λ (m : FinMap path_cmp Held). map.get m q) new ∙ get-change_held held process.place (tallied_held More) q) ∙ is);
  }
    where
      fewer : (b : Bool) (n all : ℕ) → cond b (1 + n) n ≤ all → n ≤ all
      fewer true n all h = omega (arith, h)
      fewer false n all h = h

      raised : (q : Names) (h : Held) (b : Bool) → ((k : Held) → map.get held q ≡ Some k
          → k.live + cond b (1 + gathered (one_more (at q)) 0 next) (gathered (one_more (at q)) 0 next) ≡ count_live st.live q)
          → cond b (option_map (tallied_held More) (map.get held q)) (map.get held q) ≡ Some h
          → h.live + gathered (one_more (at q)) 0 next ≡ count_live st.live q
      raised q h true counted e =
          let found = mapped_from (tallied_held More) (map.get held q) h e in
          let before = counted found.0 found.1 in
          let most = few_live st.live q in
          let now : ((tallied_held More) found.0).live ≡ h.live = ap (λ (k : Held). k.live) found.2 in
          omega (arith, before, most, small, now)
      raised q h false counted e = counted h e

pub raised_all : (st : State) (held : FinMap path_cmp Held) (rest : List (ℕ × Process)) → AreRaised st held rest → rest ≡ []
    → AreCounted held st.live
raised_all st held rest so_far none q h is =
    let all = so_far.counted q h is in
    let nothing = ap (gathered (one_more (at q)) 0) none in
    omega (arith, all, nothing)
