-- The reader's processes are those of their tables, and its fault is the first of the clauses on them.
use Rattle.std.proofs.Common.{◌≡◌, ℕ, ◌+◌, ◌≤◌, Bool, true, false, cond, ◌||◌, List, [], ◌∷◌, ◌++◌, length, take, map as map_list, codes, Option, Some, None, is_some, option_map, option_and_then, refl, sym, ap, subst, ◌∙◌, true≢false, arith}
use Rattle.std.specs.Prelude.{find, filter_map, nat_eq}
use Rattle.std.specs.List.{list_all, list_any}
use Rattle.std.specs.Map.{lookup}
use Rattle.std.specs.BTreeMap.{BTreeMap, get, is_at, keys}
use Rattle.std.specs.BTreeSet.{BTreeSet, IsFromIterResult}
use Rattle.std.specs.Ordering.{nat_cmp}
use Rattle.std.specs.Cmp.{nat_cmp_total, eq_by_cmp_equiv, unsigned_ties, Equal-is}
use Rattle.std.specs.FinMap as map
use Rattle.std.specs.FinSet as set
use Rattle.std.specs.FinMap.{nat_cmp-IsAntisymmetric}
use Rattle.std.proofs.lemmas.Bool.{or_left, or_right}
use Rattle.std.proofs.lemmas.List.{take_all}
use Rattle.std.specs.Option.{option_or}
use Rattle.std.proofs.lemmas.List.Folds.{find-append, list_any-append}
use Rattle.std.proofs.lemmas.Map.Made.{is_some-lookup}
use Rattle.std.proofs.Math.Bool.{or-false}
use Rattle.toml.specs.Data.{Members, as_table}
use Rattle.toml.specs.View.{view}
use Rattle.toml.specs.declared.value.Value.{Value}
use Rattle.cg_cgroup.specs.Paths.{Names, path_cmp, is_root}
use Rattle.cg_cgroup.specs.Files.{enables_nothing}
use Rattle.cg_cgroup.proofs.Options.{same_some}
use Rattle.cg_cgroup.specs.declared.cgroup.Cgroup.{Cgroup}
use Rattle.cg_cgroup.specs.declared.controllers.ControllerSet.{ControllerSet}
use Rattle.cg_cgroup.specs.declared.process.Process.{Process}
use Rattle.cg_rows.specs.Processes.{LiveAndUsed}
use Rattle.cg_rows.proofs.StdMaps.{get-shown}
use Rattle.cg_model.specs.Clauses.{unless, absent, present, first}
use Rattle.cg_model.proofs.ClauseLaws.{none_of_first}
use Rattle.cg_format.specs.Said.{path_said, has_path, pid_said}
use Rattle.cg_format.specs.TextOf.{has_pid}
use Rattle.cg_format.specs.TextFaults.{each_process, enabled_there, process_faults}
use Rattle.cg_format.specs.Tables.{IsAmong, IsLive, AreProcesses}
use Rattle.cg_text.specs.Live.{AreLive, place_faults}
use Rattle.cg_format.specs.declared.fault.Place.{Place}
use Rattle.cg_format.specs.declared.fault.Place.TheVariants.{Process as AtProcess}
use Rattle.cg_format.specs.declared.fault.TreeFault.{TreeFault}
use Rattle.cg_format.specs.declared.fault.TreeFault.TheVariants.{NoSuchPlace, InternalProcess}
use Rattle.cg_text.proofs.EachRow.{HavePassed, none_passed, IsNextTable, table_taken, table_passed, table_found, tables_passed, tables_taken}
use Rattle.cg_format.proofs.Cuts.{is_some-find}
use Rattle.cg_format.proofs.KeysOnce.{find_past}
use Rattle.cg_format.proofs.TablesSay.{process_says}

-- ---- the place of a process

-- the first fault of a place, by the cgroup that is there
abbrev pub place_fault : Place → Names → Option Cgroup → Option TreeFault
place_fault place at found = elim found [
  | None ↦ Some (NoSuchPlace place)
  | Some cgroup ↦ first
      (unless (is_root at || enables_nothing cgroup.enabled) (InternalProcess place))
]

module _ (tables : List Members) (cgroups : map.FinMap path_cmp Cgroup) (among : IsAmong tables cgroups) (place : Place)
    (row : Members) where
  abbrev look : Names → Option Members
  look path = find (has_path path) tables

  abbrev held : Names → List TreeFault
  held path = present (enabled_there tables path) (λ enabled. unless (is_root path || enables_nothing enabled) (InternalProcess place))

  abbrev at_path : Option Names → Option TreeFault
  at_path said = first (absent (option_and_then look said) (NoSuchPlace place) ++ present said held)

  pathless : (said : Option Names) (fault : TreeFault) → first (absent said (NoSuchPlace place)) ≡ Some fault → at_path said ≡ Some fault
  pathless said fault is = grind arith

  pub without_path : (fault : TreeFault) → first (absent (path_said (codes "at") row) (NoSuchPlace place)) ≡ Some fault
      → first (place_faults tables place row) ≡ Some fault
  without_path fault is = pathless (path_said (codes "at") row) fault is

  by_table : (at : Names) (table : Option Members) (enabled : Option ControllerSet) (found : Option Cgroup) → is_some table ≡ is_some found
      → enabled ≡ option_map (λ (c : Cgroup). c.enabled) found
      → first (absent table (NoSuchPlace place) ++ present enabled
      (λ enabled. unless (is_root at || enables_nothing enabled) (InternalProcess place))) ≡ place_fault place at found
  by_table at table enabled found there is = grind arith

  pub at_place : (at : Names) → path_said (codes "at") row ≡ Some at
      → first (place_faults tables place row) ≡ place_fault place at (map.get cgroups at)
  at_place at said =
      ap at_path said
      ∙ by_table at (look at) (enabled_there tables at) (map.get cgroups at) (is_some-find (has_path at) tables ∙ sym (among.there at))
      (sym (among.enabled at))

-- below the root no process is where something is enabled
pub barred_place : (root nothing : Bool) (place : Place) → root ≡ false → nothing ≡ false
    → first (unless (root || nothing) (InternalProcess place)) ≡ Some (InternalProcess place)
barred_place root nothing place below more = λ i. first (unless (below i || more i) (InternalProcess place))

-- what a look-up of all names of a path gives
pub got_whole : {X : Type 0} (cgroups : map.FinMap path_cmp X) (at : Names) (depth : ℕ) (found : Option X)
    → found ≡ map.get cgroups (take depth at) → depth ≡ length at → map.get cgroups at ≡ found
got_whole cgroups at depth found is whole =
    let long : length at ≤ depth = omega (arith, whole) in
    ap (map.get cgroups) (sym (take_all depth at long)) ∙ sym is

-- ---- the processes so far

-- The processes of the first i tables, none of which has a fault.
pub record HasRead (tables rows : List Members) (i : ℕ) (live : BTreeMap ℕ Process) : Type 0 where
  pub passed : HavePassed (process_faults tables) AtProcess rows i
  pub are : AreLive (take i rows) live

pub none_read : (tables rows : List Members) (live : BTreeMap ℕ Process) → live.entries ≡ [] → HasRead tables rows 0 live
none_read tables rows live empty = record {
  passed = none_passed (process_faults tables) AtProcess rows;
  are = record {
    pids = λ pid. ap (λ es. is_some (lookup (is_at (nat_cmp pid)) es)) empty;
    processes = λ pid process is. absurd (true≢false (sym (ap is_some is) ∙ ap (λ es. is_some (lookup (is_at (nat_cmp pid)) es)) empty));
  };
}

find_behind : (p : Members → Bool) (before : List Members) (row : Members) → list_any p before ≡ false → p row ≡ true
    → find p (before ++ row ∷ []) ≡ Some row
find_behind p before row none so = find_past p before (row ∷ []) none ∙ ap (λ b. cond b (Some row) None) so

find_before : (p : Members → Bool) (before rest : List Members) (row : Members) → find p before ≡ Some row
    → find p (before ++ rest) ≡ Some row
find_before p before rest row is = find-append p before rest ∙ ap (λ found. option_or found (find p rest)) is

-- one process more
module _ (earlier : List Members) (row : Members) (live after : BTreeMap ℕ Process) (pid : ℕ) (process : Process)
    (is : IsLive row (pid, process)) (had : AreLive earlier live)
    (new : list_any (has_pid pid) earlier ≡ false) (updates : (q : ℕ)
    → get nat_cmp after q ≡ cond (is_at (nat_cmp pid) q) (Some process) (get nat_cmp live q)) where
  says : (q : ℕ) → has_pid q row ≡ is_at (nat_cmp pid) q
  says q = ap (λ (o : Option ℕ). elim o [ None ↦ false | Some said ↦ nat_eq q said ]) is.pid ∙ unsigned_ties q pid
      ∙ (eq_by_cmp_equiv nat_cmp_total).symm q pid

  pids_more : (q : ℕ) (t : Bool) → is_at (nat_cmp pid) q ≡ t → is_some (get nat_cmp after q) ≡ list_any (has_pid q) (earlier ++ row ∷ [])
  pids_more q true at =
      ap is_some (updates q ∙ ap (λ b. cond b (Some process) (get nat_cmp live q)) at)
      ∙ sym (list_any-append (has_pid q) earlier (row ∷ []) ∙ or_right (list_any (has_pid q) earlier) (list_any (has_pid q) (row ∷ []))
      (or_left (has_pid q row) false (says q ∙ at)))
  pids_more q false at =
      ap is_some (updates q ∙ ap (λ b. cond b (Some process) (get nat_cmp live q)) at) ∙ had.pids q
      ∙ sym (list_any-append (has_pid q) earlier (row ∷ []) ∙ ap (λ b. list_any (has_pid q) earlier || (b || false)) (says q ∙ at)
      ∙ or-false (list_any (has_pid q) earlier))

  abbrev OfRow : ℕ → Process → Type 0
  OfRow q other = (said : Members) × (find (has_pid q) (earlier ++ row ∷ []) ≡ Some said) × IsLive said (q, other)

  here : (q : ℕ) (other : Process) → pid ≡ q → process ≡ other → OfRow q other
  here q other at same = (
    row,
    find_behind (has_pid q) earlier row (ap (λ n. list_any (has_pid n) earlier) (sym at) ∙ new) (says q ∙ ap (is_at (nat_cmp pid)) (sym at)
        ∙ (eq_by_cmp_equiv nat_cmp_total).refl pid),
    subst (λ (e : ℕ × Process). IsLive row e) (λ i. (at i, same i)) is,
  )

  processes_more : (q : ℕ) (other : Process) (t : Bool) → is_at (nat_cmp pid) q ≡ t → get nat_cmp after q ≡ Some other → OfRow q other
  processes_more q other true at found =
      let same : process ≡ other = same_some process other (sym (updates q ∙ ap (λ b. cond b (Some process) (get nat_cmp live q)) at)
      ∙ found) in
      here q other (nat_cmp-IsAntisymmetric pid q ((Equal-is (nat_cmp pid q)).0 at)) same
  processes_more q other false at found =
      let before = had.processes q other (sym (updates q ∙ ap (λ b. cond b (Some process) (get nat_cmp live q)) at) ∙ found) in
      (before.0, find_before (has_pid q) earlier (row ∷ []) before.0 before.1, before.2)

  pub live_more : AreLive (earlier ++ row ∷ []) after
  live_more = record {
    pids = λ q. pids_more q (is_at (nat_cmp pid) q) refl;
    processes = λ q other found. processes_more q other (is_at (nat_cmp pid) q) refl found;
  }

pid_is_new : (tables earlier : List Members) (place : Place) (row : Members) (pid : ℕ) → pid_said row ≡ Some pid
    → first (process_faults tables earlier place row) ≡ None → list_any (has_pid pid) earlier ≡ false
pid_is_new tables earlier place row pid said none =
    let says = process_says tables earlier place row (none_of_first _ none) in
    ap (λ pid. list_any (has_pid pid) earlier) (same_some pid says.pid (sym said ∙ says.numbered)) ∙ says.fresh

module _ (tables : List Members) (elements : List Value) (are : list_all (λ held. is_some (as_table (view held))) elements ≡ true) where
  abbrev rows : List Members
  rows = filter_map as_table (map_list view elements)

  pub all_read : (i : ℕ) (live : BTreeMap ℕ Process) → length elements ≤ i → HasRead tables rows i live
      → (first (each_process (process_faults tables) rows) ≡ None) × AreLive rows live
  all_read i live past had = (
    tables_passed (process_faults tables) AtProcess elements are i past had.passed,
    subst (λ some. AreLive some live) (tables_taken (process_faults tables) AtProcess elements are i past) had.are,
  )

  -- the next table
  module _ (i : ℕ) (row : Members) (number : ℕ) (next : IsNextTable elements i row number) (live : BTreeMap ℕ Process)
      (had : HasRead tables rows i live) where
    pub read_fails : (fault : TreeFault) → first (process_faults tables (take i rows) (AtProcess number) row) ≡ Some fault
        → first (each_process (process_faults tables) rows) ≡ Some fault
    read_fails = table_found (process_faults tables) AtProcess elements are i row number next had.passed

    pub read_more : (after : BTreeMap ℕ Process) (pid : ℕ) (process : Process)
        → first (process_faults tables (take i rows) (AtProcess number) row) ≡ None → IsLive row (pid, process)
        → ((q : ℕ) → get nat_cmp after q ≡ cond (is_at (nat_cmp pid) q) (Some process) (get nat_cmp live q))
        → HasRead tables rows (i + 1) after
    read_more after pid process none is updates = record {
      passed = table_passed (process_faults tables) AtProcess elements are i row number next had.passed none;
      are =
          subst (λ some. AreLive some after) (sym (table_taken (process_faults tables) AtProcess elements are i row number next))
          (live_more (take i rows) row live after pid process is had.are
          (pid_is_new tables (take i rows) (AtProcess number) row pid is.pid none) updates);
    }

-- ---- the map of processes, with its keys

pub are_processes : (rows : List Members) (live : BTreeMap ℕ Process) (used : BTreeSet ℕ) (all : LiveAndUsed) → AreLive rows live
    → all.live ≡ map.from_entries live.entries → all.used ≡ set.from_list used.keys
    → IsFromIterResult nat_cmp (keys live) used → AreProcesses rows all.live all.used
are_processes tables live used all had live_is used_is made =
    let got : (pid : ℕ) → map.get all.live pid ≡ get nat_cmp live pid = λ pid. ap (λ m. map.get m pid) live_is
    ∙ get-shown nat_cmp_total live.entries pid in
    record {
      pids = λ pid. ap is_some (got pid) ∙ had.pids pid;
      processes = λ pid process is. had.processes pid process (sym (got pid) ∙ is);
      used = λ pid.
          ap (λ s. set.contains s pid) used_is ∙ set.contains-from_list nat_cmp_total used.keys pid ∙ made.0 pid
          ∙ sym (is_some-lookup (is_at (nat_cmp pid)) live.entries)
          ∙ sym (ap is_some (got pid));
    }
