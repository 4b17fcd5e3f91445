-- The entries that the walk leaves behind are those of the tables, each as its table says, with the files that stand.
use Rattle.std.proofs.Common.{◌≡◌, ℕ, ◌+◌, ◌<◌, ◌≤◌, zero, suc, Bool, true, false, not, cond, ◌||◌, List, [], ◌∷◌, ◌++◌, length, take, get_or, filter, Option, Some, None, is_some, option_map, unwrap_or, is_lt, refl, sym, ap, subst, ◌∙◌, true≢false, arith}
use Rattle.std.specs.Prelude.{find}
use Rattle.std.specs.Option.{option_to_list}
use Rattle.std.specs.List.{list_any}
use Rattle.std.specs.Map.{lookup}
use Rattle.std.specs.FinMap.Entries.{below_all, is_sorted}
use Rattle.std.proofs.lemmas.Bool.{and_from, or_parts}
use Rattle.std.proofs.lemmas.List.{take_more, get_or-take, length-take, append_assoc}
use Rattle.std.specs.List.Sorted.{IsStableByKey}
use Rattle.std.proofs.lemmas.List.Sorted.{ranks_by, sorted_far}
use Rattle.toml.specs.Data.{Members}
use Rattle.cg_cgroup.specs.Paths.{Names, path_cmp, same_path, is_root}
use Rattle.cg_cgroup.specs.Files.{enables, no_controllers, stands_under, is_beyond}
use Rattle.cg_cgroup.specs.Cgroups.{file_of, entry_in, value_in, root_file}
use Rattle.cg_cgroup.proofs.CgroupLaws.{stands-under, entry-under}
use Rattle.cg_cgroup.specs.declared.user.Entry.{Entry}
use Rattle.cg_cgroup.specs.declared.files.Limit.{Limit}
use Rattle.cg_cgroup.specs.declared.controllers.ControllerSet.{ControllerSet}
use Rattle.cg_cgroup.specs.declared.files.EntryName.{EntryName}
use Rattle.cg_cgroup.specs.declared.files.EntryName.TheVariants.{Dir, Procs, SubtreeControl, File, Other}
use Rattle.cg_cgroup.specs.declared.files.LimitFile.{LimitFile}
use Rattle.cg_cgroup.specs.declared.files.LimitFile.TheVariants.{MaxDescendants, MaxDepth}
use Rattle.cg_cgroup.specs.declared.cgroup.LimitEntry.{LimitEntry}
use Rattle.cg_cgroup.specs.declared.cgroup.Cgroup.{Cgroup}
use Rattle.cg_cgroup.proofs.Options.{same_some}
use Rattle.cg_cgroup.proofs.PathOrder.{path_cmp_total, same_path-ties, same_path_refl}
use Rattle.cg_format.specs.Said.{has_path}
use Rattle.cg_format.specs.TextFaults.{over}
use Rattle.cg_format.specs.Tables.{IsEntryOf, AreEntriesOf}
use Rattle.cg_text.specs.Rows.{IsReadAs, AreReadAs}
use Rattle.cg_text.specs.Walk.{has_met, over_in, fitted_to, entries_from, HasTested, least_fault, AreInOrder, IsNext}
use Rattle.cg_format.specs.declared.format.Format.{Format}
use Rattle.cg_text.specs.declared.tree.row.Row.{Row}
use Rattle.cg_text.specs.declared.tree.walk.Least.{Least}
use Rattle.cg_format.proofs.Cuts.{head_of, find_filter, any_filter}
use Rattle.cg_format.proofs.DocumentOfLaws.{freeze-stands, freeze-roots}
use Rattle.cg_text.proofs.LeastLaws.{at_path, AreMatched, read_found, there_is, over_is, AreSameRows, same_rows, AreOnce, once_from, once_moved, over_before}

-- ---- the keys of the entries

-- no path stands behind a row that has it, nor twice behind it
pub once_tail : (row : Row) (rows : List Row) → AreOnce (row ∷ rows) → (list_any (at_path row.path) rows ≡ false) × AreOnce rows
once_tail row rows once = (
  any_filter (at_path row.path) rows
      ∙ ap (λ some. is_some (head_of some)) (none_more row.path (same_path_refl row.path)),
  λ path. elim (same_path path row.path) as (λ b. same_path path row.path ≡ b
      → filter (at_path path) rows ≡ option_to_list (head_of (filter (at_path path) rows))) [
        | true ↦ λ at. let none = none_more path at in none ∙ ap (λ some. option_to_list (head_of some)) (sym none)
        | false ↦ λ other. kept path false other
      ] refl,
)
  where
    kept : (path : Names) (b : Bool) → same_path path row.path ≡ b
        → cond b (row ∷ filter (at_path path) rows) (filter (at_path path) rows)
        ≡ option_to_list (head_of (cond b (row ∷ filter (at_path path) rows) (filter (at_path path) rows)))
    kept path b is =
        let some : Bool → List Row = λ b. cond b (row ∷ filter (at_path path) rows) (filter (at_path path) rows) in
        subst (λ b. some b ≡ option_to_list (head_of (some b))) is (once path)

    none_more : (path : Names) → same_path path row.path ≡ true → filter (at_path path) rows ≡ []
    none_more path at = let one = kept path true at in cc

-- what isn't less, the other way, and isn't the same is less
pub less : (p q : Names) → is_lt (path_cmp q p) ≡ false → same_path p q ≡ false → is_lt (path_cmp p q) ≡ true
less p q late apart = grind (arith, path_cmp_total.antisymm p q, same_path-ties p q)

below_entries : (path : Names) (met rows : List Row)
    → ((k : ℕ) (d : Row) → k < length rows → is_lt (path_cmp (get_or rows k d).path path) ≡ false)
    → list_any (at_path path) rows ≡ false → below_all path_cmp path (entries_from met rows) ≡ true
below_entries path met [] late apart = refl
below_entries path met (row ∷ rows) late apart =
    let parts = or_parts (same_path path row.path) (list_any (at_path path) rows) apart in
    and_from _ _ (less path row.path (late zero row (omega arith)) parts.0)
    (below_entries path (met ++ row ∷ []) rows (λ k d inside. late (suc k) d (omega arith)) parts.1)

entries_rise : (met rows : List Row)
    → ((i j : ℕ) (d : Row) → i ≤ j → j < length rows → is_lt (path_cmp (get_or rows j d).path (get_or rows i d).path) ≡ false)
    → AreOnce rows → is_sorted path_cmp (entries_from met rows) ≡ true
entries_rise met [] rise once = refl
entries_rise met (row ∷ rows) rise once =
    let parts = once_tail row rows once in
    and_from _ _
    (below_entries row.path (met ++ row ∷ []) rows (λ k d inside. rise zero (suc k) d (omega arith) (omega arith)) parts.0)
    (entries_rise (met ++ row ∷ []) rows (λ i j d l inside. rise (suc i) (suc j) d (omega arith) (omega arith)) parts.1)

-- ---- the files that stand

file_of-fitted_to : (above : ControllerSet) (cgroup : Cgroup) (file : LimitFile)
    → file_of (fitted_to above cgroup) file ≡ cond (stands_under above file) (file_of cgroup file) None
file_of-fitted_to above cgroup MaxDescendants = refl
file_of-fitted_to above cgroup MaxDepth = refl
file_of-fitted_to above cgroup file = refl

was_there : {A B : Type 0} (g : A → B) (b : Bool) (o : Option A) (y : B) → option_map g (cond b o None) ≡ Some y → option_map g o ≡ Some y
was_there g b o y is = grind arith

entry_was : (above : ControllerSet) (cgroup : Cgroup) (name : EntryName) (entry : Entry) → is_beyond name ≡ false
    → entry_in (fitted_to above cgroup) name ≡ Some entry → entry_in cgroup name ≡ Some entry
entry_was above cgroup Dir entry within is = is
entry_was above cgroup Procs entry within is = is
entry_was above cgroup SubtreeControl entry within is = is
entry_was above cgroup (Other file) entry within is = absurd (true≢false within)
entry_was above cgroup (File file) entry within is =
    let entry_at : LimitEntry → Entry = λ held. held.entry in
    was_there entry_at (stands_under above file) (file_of cgroup file) entry
    (ap (option_map entry_at) (sym (file_of-fitted_to above cgroup file)) ∙ is)

value_was : (above : ControllerSet) (cgroup : Cgroup) (file : LimitFile) (held : LimitEntry)
    → file_of (fitted_to above cgroup) file ≡ Some held → value_in cgroup file ≡ Some held.value
value_was above cgroup file held is =
    let value_at : LimitEntry → Limit = λ held. held.value in
    was_there value_at (stands_under above file) (file_of cgroup file) held.value
    (ap (option_map value_at) (sym (file_of-fitted_to above cgroup file) ∙ is))

stands : (b : Bool) (o : Option LimitEntry) → is_some o ≡ true → is_some (cond b o None) ≡ b
stands b o is = grind arith

-- a row's cgroup, with the files that stand under what is over it
read_entry : (format : Format) (tables : List Members) (number : ℕ) (table : Members) (row : Row) → IsReadAs format number table row
    → (above : ControllerSet) → ((other : ControllerSet) → over (Some no_controllers) tables row.path ≡ Some other → other ≡ above)
    → IsEntryOf format tables table (fitted_to above row.cgroup)
read_entry format tables number table row read above same = record {
  enabled = read.enabled;
  entries = λ name entry within is. read.entries name within ∙ entry_was above row.cgroup name entry within is;
  values = λ file held is. read.values file ∙ value_was above row.cgroup file held is;
  files = λ path other said is file.
      let own : path ≡ row.path = same_some path row.path (sym said ∙ read.path) in
      let sets : other ≡ above = same other (ap (over (Some no_controllers) tables) (sym own) ∙ is) in
      ap is_some (file_of-fitted_to above row.cgroup file)
      ∙ stands (stands_under above file) (file_of row.cgroup file) (read.files file)
      ∙ ap (λ (set : ControllerSet). stands_under set file) (sym sets);
  others = λ path other said is controller.
      let own : path ≡ row.path = same_some path row.path (sym said ∙ read.path) in
      let sets : other ≡ above = same other (ap (over (Some no_controllers) tables) (sym own) ∙ is) in
      stands-under above root_file (fitted_to above row.cgroup) refl controller
      ∙ ap (λ (set : ControllerSet). enables set controller) (sym sets);
  freeze = λ path said.
      ap is_some read.freeze ∙ freeze-stands row.path
      ∙ ap (λ path. not (is_root path)) (sym (same_some path row.path (sym said ∙ read.path)));
  roots = record {
    freeze = λ entry is. freeze-roots row.path entry (sym read.freeze ∙ is);
    others = entry-under above root_file (fitted_to above row.cgroup) refl;
  };
}

-- ---- the entries

-- a row's entry behind the rows before it
abbrev entry_of : List Row → Row → Cgroup
entry_of met row = fitted_to (unwrap_or (over_in no_controllers met row.path) no_controllers) row.cgroup

entries_there : (path : Names) (met rows : List Row) → is_some (lookup (same_path path) (entries_from met rows)) ≡ has_met rows path
entries_there path met [] = refl
entries_there path met (row ∷ rows) =
    let later : List (Names × Cgroup) = entries_from (met ++ row ∷ []) rows in
    elim (same_path path row.path) as (λ b.
    is_some (cond b (Some (entry_of met row)) (lookup (same_path path) later)) ≡ (b || has_met rows path)) [
      | true ↦ refl
      | false ↦ entries_there path (met ++ row ∷ []) rows
    ]

-- the entry that is found is that of the first row at the path
record IsEntryAt (path : Names) (all rows : List Row) (cgroup : Cgroup) : Type 0 where
  front : List Row
  row : Row
  back : List Row
  split : front ++ row ∷ back ≡ all
  found : find (at_path path) rows ≡ Some row
  is : entry_of front row ≡ cgroup

entry_found : (path : Names) (met rows all : List Row) (cgroup : Cgroup) → met ++ rows ≡ all
    → lookup (same_path path) (entries_from met rows) ≡ Some cgroup → IsEntryAt path all rows cgroup
entry_found path met [] all cgroup whole is = absurd (true≢false (sym (ap is_some is)))
entry_found path met (row ∷ rows) all cgroup whole is =
    elim (same_path path row.path) as (λ b. same_path path row.path ≡ b
    → cond b (Some (entry_of met row)) (lookup (same_path path) (entries_from (met ++ row ∷ []) rows)) ≡ Some cgroup
    → IsEntryAt path all (row ∷ rows) cgroup) [
      | true ↦ λ at found. record {
        front = met;
        row = row;
        back = rows;
        split = whole;
        found = ap (λ b. cond b (Some row) (find (at_path path) rows)) at;
        is = same_some (entry_of met row) cgroup found;
      }
      | false ↦ λ other found.
          let later = entry_found path (met ++ row ∷ []) rows all cgroup (append_assoc met (row ∷ []) rows ∙ whole) found in
          record {
            front = later.front;
            row = later.row;
            back = later.back;
            split = later.split;
            found = ap (λ b. cond b (Some row) (find (at_path path) rows)) other ∙ later.found;
            is = later.is;
          }
    ] refl is

module _ (format : Format) (tables : List Members) (rows sorted : List Row) (read : AreReadAs format 1 tables rows)
    (same : AreSameRows sorted rows) (order : AreInOrder sorted) (once : AreOnce rows) where
  found_same : (path : Names) → find (at_path path) rows ≡ find (at_path path) sorted
  found_same path =
      find_filter (at_path path) rows ∙ ap head_of (sym (same path)) ∙ sym (find_filter (at_path path) sorted)

  each_is : (path : Names) (cgroup : Cgroup) (table : Members) → lookup (same_path path) (entries_from [] sorted) ≡ Some cgroup
      → find (has_path path) tables ≡ Some table → IsEntryOf format tables table cgroup
  each_is path cgroup table is found =
      let at = entry_found path [] sorted sorted cgroup refl is in
      let row : Row = at.row in
      let matched : AreMatched format (Some table) (Some row) =
      subst (λ o. AreMatched format o (Some row)) found
      (subst (AreMatched format (find (has_path path) tables)) (found_same path ∙ at.found) (read_found format path 1 tables rows read)) in
      let above = over_before rows sorted same order once no_controllers at.front row at.back at.split
      ∙ sym (over_is format 1 tables rows read no_controllers row.path) in
      subst (IsEntryOf format tables table) at.is
      (read_entry format tables matched.0 table row matched.1 (unwrap_or (over_in no_controllers at.front row.path) no_controllers)
      (λ other is. sym (ap (λ (o : Option ControllerSet). unwrap_or o no_controllers) (above ∙ is))))

  entries_are : AreEntriesOf format tables (entries_from [] sorted)
  entries_are = record {
    sorted =
        entries_rise [] sorted
        (sorted_far (λ (x y : Row). is_lt (path_cmp x.path y.path)) (ranks_by path_cmp_total (λ (row : Row). row.path)) sorted order)
        (once_moved rows sorted (λ path. sym (same path)) once);
    there = λ path.
        entries_there path [] sorted ∙ any_filter (at_path path) sorted ∙ ap (λ some. is_some (head_of some)) (same path)
        ∙ sym (any_filter (at_path path) rows) ∙ sym (there_is format 1 tables rows read path);
    each = each_is;
  }

-- ---- where there is no fault

pub no_twice : (least : Least) (root : Bool) → least_fault least root ≡ None → least.twice ≡ None
no_twice least root none =
    elim least.twice as (λ (twice : Option ℕ). least_fault (record least { twice = twice }) root ≡ None → twice ≡ None) [
      | None ↦ λ _. refl
      | Some number ↦ λ some. absurd (true≢false (ap is_some some))
    ] none

pub entries_of_tables : (format : Format) (tables : List Members) (rows sorted : List Row) (controllers : ControllerSet) (least : Least)
    → (root : Bool) → AreReadAs format 1 tables rows → AreInOrder sorted → IsStableByKey (λ row. row.path) path_cmp rows sorted
    → HasTested controllers sorted least → least_fault least root ≡ None → AreEntriesOf format tables (entries_from [] sorted)
entries_of_tables format tables rows sorted controllers least root read order stable tested none =
    let same = same_rows rows sorted stable in
    let once = once_from sorted least.twice tested.twice (no_twice least root none) in
    entries_are format tables rows sorted read same order (once_moved sorted rows same once)

-- ---- rows in order, one by one

order_front : (n : ℕ) (rows : List Row) → AreInOrder rows → AreInOrder (take n rows)
order_front n rows order k d low inside =
    let short : length (take n rows) ≤ n = omega (arith, length-take n rows) in
    let within : length (take n rows) ≤ length rows = omega (arith, length-take n rows) in
    let one = get_or-take n rows (k + 1) d (omega arith) in
    let other = get_or-take n rows k d (omega arith) in
    (λ i. is_lt (path_cmp (one i).path (other i).path)) ∙ order k d low (omega arith)

-- the rows so far and the next one
pub next_in_order : (rows met : List Row) (row : Row) → AreInOrder rows → met ≡ take (length met) rows → length met < length rows
    → row ≡ get_or rows (length met) row → IsNext met row
next_in_order rows met row order front inside is =
    let more : take (length met + 1) rows ≡ met ++ row ∷ [] =
    take_more rows (length met) row inside ∙ (λ i. sym front i ++ sym is i ∷ []) in
    subst AreInOrder more (order_front (length met + 1) rows order)
