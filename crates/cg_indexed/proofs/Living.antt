-- Counts of live processes, and how they follow changes.
use Rattle.std.proofs.Common.{◌≡◌, ℕ, ◌+◌, ◌-◌, ◌<◌, ◌≤◌, min, Bool, true, false, cond, nat_lt, List, [], ◌∷◌, map as map_list, refl, sym, ap, ◌∙◌, true≢false, Some, None, Option, is_some, option_map, arith}
use Rattle.std.specs.List.{list_any}
use Rattle.std.specs.Option.{MatchOption}
use Rattle.cg_model.specs.NearestFull.{is_full, NoneIsFull, IsNearestFull}
use Rattle.std.proofs.lemmas.List.{length-map}
use Rattle.std.proofs.lemmas.List.Sums.{count_by-le-length}
use Rattle.std.specs.Ordering.{nat_cmp}
use Rattle.std.specs.Cmp.{nat_cmp_total}
use Rattle.std.specs.FinMap as map
use Rattle.std.specs.FinMap.{FinMap}
use Rattle.cg_cgroup.specs.Paths.{Names, path_cmp, same_path, below}
use Rattle.cg_cgroup.specs.declared.process.Process.{Process}
use Rattle.cg_model.specs.States.{State, has_child, has_live, is_used, paths_of, count_below}
use Rattle.cg_model.specs.WellFormed.{IsWellFormed, has_row, may_hold}
use Rattle.cg_cgroup.proofs.PathOrder.{path_cmp_total, path_cmp-IsAntisymmetric, same_path-ties, same_path-is}
use Rattle.cg_cgroup.proofs.Options.{mapped_from, same_some}
use Rattle.cg_model.proofs.MapLaws.{any_entry, entry_any, list_any-map, get-change_value, get-changed}
use Rattle.cg_model.proofs.MapFolds.{gathered, gathered-insert, gathered-remove, insert-remove, get-remove-same}
use Rattle.cg_model.proofs.StateTests.{has_child-row, has_live-process}
use Rattle.cg_model.proofs.FormedParts.{may_hold-row}
use Rattle.cg_model.proofs.TreeLaws.{below-has_child}
use Rattle.cg_counts.specs.Kept.{Held, change_held, change_each_held, tallied_held}
use Rattle.cg_indexed.specs.Indexed.{count_live}
use Rattle.cg_model.proofs.StateCounts.{one_more, one_more-Commutes}
use Rattle.cg_places.specs.declared.links.Tally.TheVariants.{More, Fewer}
use Rattle.cg_places.proofs.Counted.{gathered-count, any-count, count-none}
use Rattle.cg_counts.proofs.Enabled.{below-is_child}
use Rattle.cg_places.proofs.Values.{get-put, get-without}

-- ---- children, counted

pub has_child-counted : (st : State) → IsWellFormed st → (q : Names) → has_child st q ≡ nat_lt 0 (count_below st q)
has_child-counted st formed q = same ∙ any-count (below q) (paths_of st)
  where
    same : has_child st q ≡ list_any (below q) (paths_of st)
    same = elim (has_child st q) as (λ b. has_child st q ≡ b → b ≡ list_any (below q) (paths_of st)) [
      | true ↦ λ e.
          let found = has_child-row st q e in
          sym (list_any-map (below q) (λ e. e.0) (map.entries st.rows)
          ∙ entry_any path_cmp-IsAntisymmetric (λ e. below q e.0) st.rows found.0 found.1 found.2 (below-is_child q found.0 found.3))
      | false ↦ λ e.
          elim (list_any (below q) (paths_of st)) as (λ b. list_any (below q) (paths_of st) ≡ b → false ≡ b) [
            | true ↦ λ one.
                let found =
                any_entry path_cmp_total (λ e. below q e.0) st.rows
                (sym (list_any-map (below q) (λ e. e.0) (map.entries st.rows)) ∙ one) in
                absurd (true≢false (sym (below-has_child st formed q found.0 found.3 (ap is_some found.2)) ∙ e))
            | false ↦ λ no_one. refl
          ] refl
    ] refl

pub has_live-counted : (st : State) (q : Names) → has_live st q ≡ nat_lt 0 (count_live st.live q)
has_live-counted st q = any-count (λ process. same_path process.place q) (map.values st.live)

-- ---- live processes, counted

abbrev pub at : Names → ℕ × Process → Bool
at q e = same_path e.1.place q

gathered-values : (q : Names) (es : List (ℕ × Process))
    → gathered (one_more (λ (process : Process). same_path process.place q)) 0 (map_list (λ e. e.1) es) ≡ gathered (one_more (at q)) 0 es
gathered-values q [] = refl
gathered-values q (e ∷ es) = ap (one_more (at q) e) (gathered-values q es)

pub gathered_live : (live : FinMap nat_cmp Process) (q : Names) → gathered (one_more (at q)) 0 (map.entries live) ≡ count_live live q
gathered_live live q =
    sym (gathered-values q (map.entries live)) ∙ gathered-count (λ (process : Process). same_path process.place q) (map.values live)

module _ (live : FinMap nat_cmp Process) (pid : ℕ) where
  pub count_live-insert : (process : Process) → map.get live pid ≡ None → (q : Names)
      → count_live (map.insert live pid process) q ≡ cond (same_path process.place q) (1 + count_live live q) (count_live live q)
  count_live-insert process none q =
      sym (gathered_live (map.insert live pid process) q)
      ∙ gathered-insert nat_cmp_total (one_more (at q)) 0 (one_more-Commutes (at q)) live pid process none
      ∙ ap (one_more (at q) (pid, process)) (gathered_live live q)

  pub count_live-remove : (process : Process) → map.get live pid ≡ Some process → (q : Names)
      → count_live live q ≡ cond (same_path process.place q) (1 + count_live (map.remove live pid) q) (count_live (map.remove live pid) q)
  count_live-remove process is q =
      sym (gathered_live live q)
      ∙ gathered-remove nat_cmp_total (one_more (at q)) 0 (one_more-Commutes (at q)) map.nat_cmp-IsAntisymmetric live pid process is
      ∙ ap (one_more (at q) (pid, process)) (gathered_live (map.remove live pid) q)

  pub count_live-put : (process : Process) (q : Names) → count_live (map.insert live pid process) q
      ≡ cond (same_path process.place q) (1 + count_live (map.remove live pid) q) (count_live (map.remove live pid) q)
  count_live-put process q =
      ap (λ m. count_live m q) (sym (insert-remove nat_cmp_total map.nat_cmp-IsAntisymmetric live pid process))
      ∙ sym (gathered_live (map.insert (map.remove live pid) pid process) q)
      ∙ gathered-insert nat_cmp_total (one_more (at q)) 0 (one_more-Commutes (at q)) (map.remove live pid) pid process
      (get-remove-same nat_cmp_total live pid)
      ∙ ap (one_more (at q) (pid, process)) (gathered_live (map.remove live pid) q)

pub few_live : (live : FinMap nat_cmp Process) (q : Names) → count_live live q ≤ map.len live
few_live live q =
    let most = count_by-le-length (λ (process : Process). same_path process.place q) (map.values live) in
    omega (arith, most, length-map (map.entries live) (λ e. e.1), map.len-entries live)

-- nothing lives where there is no cgroup
pub none_live : (st : State) → IsWellFormed st → (p : Names) → has_row st p ≡ false → count_live st.live p ≡ 0
none_live st formed p absent =
    count-none (λ process. same_path process.place p) (map.values st.live)
    (elim (has_live st p) as (λ b. has_live st p ≡ b → b ≡ false) [
      | true ↦ λ e.
          let found = has_live-process st p e in
          let row = may_hold-row st found.1.place (formed.places found.0 found.1 found.2) in
          absurd (true≢false (ap is_some (sym row.1 ∙ ap (map.get st.rows) (same_path-is found.1.place p found.3)) ∙ absent))
      | false ↦ λ e. refl
    ] refl)

-- ---- what is kept at each path

-- each cgroup's count is that of these processes
abbrev pub AreCounted : FinMap path_cmp Held → FinMap nat_cmp Process → Type 0
AreCounted held live = (q : Names) (h : Held) → map.get held q ≡ Some h → h.live ≡ count_live live q

pub get-change_held : (held : FinMap path_cmp Held) (p : Names) (f : Held → Held) (q : Names)
    → map.get (change_held held p f) q ≡ cond (same_path p q) (option_map f (map.get held q)) (map.get held q)
get-change_held held p f q =
    get-change_value path_cmp_total held p f q
    ∙ ap (λ b. cond b (option_map f (map.get held q)) (map.get held q)) (sym (same_path-ties p q))

module _ (held : FinMap path_cmp Held) (p : Names) (f : Held → Held) (live : FinMap nat_cmp Process) where
  pub counted_change : ((q : Names) (h : Held) → map.get held q ≡ Some h → (cond (same_path p q) (f h) h).live ≡ count_live live q)
      → AreCounted (change_held held p f) live
  counted_change each q h is =
      elim (same_path p q) as (λ b. ((k : Held) → map.get held q ≡ Some k → (cond b (f k) k).live ≡ count_live live q)
      → cond b (option_map f (map.get held q)) (map.get held q) ≡ Some h → h.live ≡ count_live live q) [
        | true ↦ λ rule e. let found = mapped_from f (map.get held q) h e in ap (λ (k : Held). k.live) (sym found.2) ∙ rule found.0 found.1
        | false ↦ λ rule e. rule h e
      ] (each q) (sym (get-change_held held p f q) ∙ is)

less_exact : (b : Bool) (n r : ℕ) → n ≡ cond b (1 + r) r → cond b (n - 1) n ≡ r
less_exact true n r h = omega (arith, h)
less_exact false n r h = h

more_exact : (b : Bool) (n r : ℕ) → n ≡ r → r < 9223372036854775808 → cond b (min (n + 1) 18446744073709551615) n ≡ cond b (1 + r) r
more_exact true n r h small = omega (arith, h)
more_exact false n r h small = h

live_of_less : (b : Bool) (h : Held) → (cond b ((tallied_held Fewer) h) h).live ≡ cond b (h.live - 1) h.live
live_of_less true h = refl
live_of_less false h = refl

live_of_more : (b : Bool) (h : Held) → (cond b ((tallied_held More) h) h).live ≡ cond b (min (h.live + 1) 18446744073709551615) h.live
live_of_more true h = refl
live_of_more false h = refl

-- a process fewer
pub counted_less : (held : FinMap path_cmp Held) (live : FinMap nat_cmp Process) (pid : ℕ) (process : Process) → AreCounted held live
    → map.get live pid ≡ Some process → AreCounted (change_held held process.place (tallied_held Fewer)) (map.remove live pid)
counted_less held live pid process counted is =
    counted_change held process.place (tallied_held Fewer) (map.remove live pid) (λ q h has.
    live_of_less (same_path process.place q) h ∙ less_exact (same_path process.place q) h.live (count_live (map.remove live pid) q)
    (counted q h has ∙ count_live-remove live pid process is q))

-- a process more, where these are the others
pub counted_more : (held : FinMap path_cmp Held) (others live : FinMap nat_cmp Process) (p : Names) → AreCounted held others
    → ((q : Names) → count_live live q ≡ cond (same_path p q) (1 + count_live others q) (count_live others q))
    → map.len others < 9223372036854775808
    → AreCounted (change_held held p (tallied_held More)) live
counted_more held others live p counted one few =
    counted_change held p (tallied_held More) live (λ q h has.
    let most = few_live others q in
    live_of_more (same_path p q) h ∙ more_exact (same_path p q) h.live (count_live others q) (counted q h has) (omega (arith, most, few))
    ∙ sym (one q))

-- ---- limits are told by the rows alone

pub same_limits : (st new : State) (path : Names) (len : ℕ) → ((k : ℕ) → is_full new path len k ≡ is_full st path len k)
    → (found : Option ℕ) → MatchOption found (NoneIsFull st path len) (IsNearestFull st path len)
    → MatchOption found (NoneIsFull new path len) (IsNearestFull new path len)
same_limits st new path len same None none = λ k l. same k ∙ none k l
same_limits st new path len same (Some at) near =
    record { within = near.within; full = same at ∙ near.full; nearer = λ k h l. same k ∙ near.nearer k h l }

-- ---- a cgroup fewer, and one more

pub counted_less_path : (held : FinMap path_cmp Held) (p : Names) (live : FinMap nat_cmp Process) → AreCounted held live
    → AreCounted (map.remove held p) live
counted_less_path held p live counted q h is =
    elim (same_path q p) as (λ b. cond b None (map.get held q) ≡ Some h → h.live ≡ count_live live q) [
      | true ↦ λ e. absurd (true≢false (sym (ap is_some e)))
      | false ↦ λ e. counted q h e
    ] (sym (get-without held p q) ∙ is)

pub counted_more_path : (held : FinMap path_cmp Held) (p : Names) (new : Held) (live : FinMap nat_cmp Process) → AreCounted held live
    → new.live ≡ count_live live p → AreCounted (map.insert held p new) live
counted_more_path held p new live counted none q h is =
    elim (same_path q p) as (λ b. same_path q p ≡ b → cond b (Some new) (map.get held q) ≡ Some h → h.live ≡ count_live live q) [
      | true ↦ λ same e. ap (λ (k : Held). k.live) (sym (same_some new h e)) ∙ none ∙ ap (count_live live) (sym (same_path-is q p same))
      | false ↦ λ same e. counted q h e
    ] refl (sym (get-put held p new q) ∙ is)

-- ---- cgroups changed, and not their counts

pub counted_each : (held : FinMap path_cmp Held) (f : Names → Held → Held) (live : FinMap nat_cmp Process)
    → ((q : Names) (h : Held) → (f q h).live ≡ h.live) → AreCounted held live → AreCounted (change_each_held f held) live
counted_each held f live same counted q h is =
    let found = mapped_from (f q) (map.get held q) h (sym (get-changed path_cmp-IsAntisymmetric f held q) ∙ is) in
    ap (λ (k : Held). k.live) (sym found.2) ∙ same q found.0 ∙ counted q found.0 found.1

-- ---- where a live process is, there is a cgroup

pub home_there : (st : State) → IsWellFormed st → (pid : ℕ) (process : Process) → map.get st.live pid ≡ Some process
    → has_row st process.place ≡ true
home_there st formed pid process is = ap is_some (may_hold-row st process.place (formed.places pid process is)).1

pub held_there : (st : State) (p : Names) → may_hold st p ≡ true → has_row st p ≡ true
held_there st p may = ap is_some (may_hold-row st p may).1

-- a PID that was never used is no live one's
pub unused_not_live : (st : State) → IsWellFormed st → (pid : ℕ) → is_used st pid ≡ false → map.get st.live pid ≡ None
unused_not_live st formed pid unused =
    elim (map.get st.live pid) as (λ o. map.get st.live pid ≡ o → o ≡ None)
    [ None ↦ λ e. refl | Some process ↦ λ e. absurd (true≢false (sym (formed.used pid process e) ∙ unused)) ] refl

-- no more processes are left
pub few_others : (live : FinMap nat_cmp Process) (pid : ℕ) → map.len (map.remove live pid) ≤ map.len live
few_others live pid =
    let one = map.len-remove nat_cmp_total live pid in
    omega (arith, one, most (map.contains_key live pid) (map.len live))
  where
    most : (b : Bool) (n : ℕ) → cond b (n - 1) n ≤ n
    most true n = omega arith
    most false n = omega arith

-- where no process lives

pub counted_alone : (held : FinMap path_cmp Held) (p : Names) (h : Held) → h.live ≡ 0 → AreCounted (map.insert map.empty p h) map.empty
counted_alone held p h none =
    counted_more_path map.empty p h map.empty (λ q k is. absurd (true≢false (sym (ap is_some (sym (map.get-empty path_cmp q) ∙ is)))))
    (none ∙ sym nobody)
  where
    nobody : count_live map.empty p ≡ 0
    nobody = let most = few_live map.empty p in omega (arith, most, map.len-empty nat_cmp Process)
