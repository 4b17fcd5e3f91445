-- Cgroups and processes that are those of a document's tables are a well-formed state, which the document is of.
use Rattle.std.proofs.Common.{true≢false, ◌≡◌, ℕ, ◌≤◌, Bool, true, false, not, cond, ◌||◌, List, [], ◌∷◌, ◌++◌, codes, Option, Some, None, is_some, option_map, option_and_then, unwrap_or, refl, sym, ap, subst, ◌∙◌, eqb-true, eq-eqb, arith}
use Rattle.std.specs.Prelude.{find, count_by, nat_eq}
use Rattle.std.specs.Bool.{passes}
use Rattle.std.proofs.lemmas.Bool.{and_parts, not-true}
use Rattle.std.specs.List.{AllByRecursion, list_all, list_any}
use Rattle.std.specs.Map.{lookup}
use Rattle.std.specs.Ordering.{nat_cmp}
use Rattle.std.specs.FinMap as map
use Rattle.std.specs.FinSet as set
use Rattle.toml.specs.Data.{Data, Members, no_members, get_member}
use Rattle.cg_cgroup.specs.Paths.{Names, path_cmp, same_path, is_root, parent}
use Rattle.cg_cgroup.specs.Files.{all_others, is_beyond, brought_by, no_controllers, default_value, accepts, is_within, stands_by, stands_under}
use Rattle.cg_cgroup.specs.Told.{told_in}
use Rattle.cg_cgroup.specs.Cgroups.{other_in, file_of, entry_in, root_file}
use Rattle.cg_cgroup.proofs.CgroupLaws.{accepts-default_value}
use Rattle.cg_cgroup.proofs.Options.{some_value, none_value, same_some, is_some-mapped}
use Rattle.cg_cgroup.proofs.AllOthers.{each_other}
use Rattle.cg_cgroup.proofs.PathOrder.{same_path-is, same_path_refl, same_path-ties}
use Rattle.cg_cgroup.proofs.PathParents.{parent-root}
use Rattle.cg_cgroup.specs.declared.user.Entry.{Entry}
use Rattle.cg_cgroup.specs.declared.files.Limit.{Limit}
use Rattle.cg_cgroup.specs.declared.controllers.ControllerSet.{ControllerSet}
use Rattle.cg_cgroup.specs.declared.files.Controller.{Controller}
use Rattle.cg_cgroup.specs.declared.files.LimitFile.{LimitFile}
use Rattle.cg_cgroup.specs.declared.files.EntryName.{EntryName}
use Rattle.cg_cgroup.specs.declared.files.EntryName.TheVariants.{Dir, Procs, SubtreeControl, File, Other}
use Rattle.cg_cgroup.specs.declared.cgroup.LimitEntry.{LimitEntry}
use Rattle.cg_cgroup.specs.declared.cgroup.Cgroup.{Cgroup}
use Rattle.cg_cgroup.specs.declared.other_file.OtherFile.{OtherFile}
use Rattle.cg_cgroup.specs.declared.process.Process.{Process}
use Rattle.cg_cgroup.specs.declared.told.ToldFiles.{ToldFiles}
use Rattle.cg_model.specs.Clauses.{first}
use Rattle.cg_model.specs.States.{State, row_at, process_at}
use Rattle.cg_model.specs.WellFormed.{has_row, enabled_at, enabled_above, available_at, may_hold, IsFormedRow, IsFormedTold, IsWellFormed}
use Rattle.cg_model.proofs.ClauseLaws.{none_of_first}
use Rattle.cg_model.proofs.FormedParts.{row-may_hold}
use Rattle.cg_format.specs.Form.{row_keys}
use Rattle.cg_format.specs.Said.{elements_at, tables_at, integer_at, path_said, controllers_said, known_said, mode_missing, limit_of, accepted, id_read, mode_read, table_of, entry_said, value_said, is_named, told_row, has_path, pid_said}
use Rattle.cg_format.specs.TextOf.{OthersAreRoots, IsInForm, IsRowOf, IsProcessOf, has_pid, IsDocumentOf}
use Rattle.cg_format.specs.TextFaults.{each_cgroup, each_process, row_faults, is_there, enabled_there, over, tell_standing, cgroup_faults, process_faults}
use Rattle.cg_format.specs.Tables.{freeze_at, IsEntryOf, AreEntriesOf, AreToldOf, IsAmong, IsLive, AreProcesses}
use Rattle.cg_format.specs.declared.fault.Place.TheVariants.{Cgroup as AtCgroup, Process as AtProcess}
use Rattle.cg_format.specs.declared.format.Format.{Format}
use Rattle.cg_format.proofs.Cuts.{is_some-find}
use Rattle.cg_format.proofs.SaidRanges.{mode_small, entry_as, accepted_is, said_of_known}
use Rattle.cg_format.proofs.OneState.{and_then_from}
use Rattle.cg_format.proofs.ToldSaid.{row_told, told_small, known_told, table_fits}
use Rattle.cg_format.proofs.KeysOnce.{none_at, all_rows, found_at, IsOnce, key_had, once_found, once_counted}
use Rattle.cg_format.proofs.TablesSay.{row_says, StandsAmong, stands_among, root_there, SaysProcess, process_says}

-- ---- what is said is in range

entry_small : (format : Format) (row : Members) (name : EntryName) (entry : Entry) → entry_said format row name ≡ Some entry
    → entry.mode ≤ 511
entry_small format row name entry is =
    let inside : Members = unwrap_or (table_of name row) no_members in
    mode_small format (mode_missing name) (integer_at (codes "mode") inside) entry.mode
    (entry_as (id_read (integer_at (codes "uid") inside)) (id_read (integer_at (codes "gid") inside))
    (mode_read format (mode_missing name) (integer_at (codes "mode") inside)) entry is)

read_accepted : (file : LimitFile) (read : Option Limit) (value : Limit) → option_and_then (accepted file) read ≡ Some value
    → accepts file value ≡ true
read_accepted file read value is = grind (arith, accepted_is)

found_accepted : (file : LimitFile) (found : Option Data) (value : Limit)
    → elim found [ None ↦ Some (default_value file) | Some held ↦ option_and_then (accepted file) (limit_of held) ] ≡ Some value
    → accepts file value ≡ true
found_accepted file found value is = grind (arith, read_accepted, accepts-default_value)

value_accepted : (file : LimitFile) (row : Members) (value : Limit) → value_said row file ≡ Some value → accepts file value ≡ true
value_accepted file row value is = found_accepted file (get_member (codes "value") (unwrap_or (table_of (File file) row) no_members)) value
    is

-- ---- `cgroup.freeze`

pub freeze-stands : (path : Names) → is_some (freeze_at path) ≡ not (is_root path)
freeze-stands path = elim (is_root path) as (λ b. is_some (cond b None (Some root_file)) ≡ not b) [ true ↦ refl | false ↦ refl ]

pub freeze-roots : (path : Names) (entry : Entry) → freeze_at path ≡ Some entry → entry ≡ root_file
freeze-roots path entry =
    elim (is_root path) as (λ b. cond b None (Some root_file) ≡ Some entry → entry ≡ root_file) [
      | true ↦ λ none. absurd (true≢false (sym (ap is_some none)))
      | false ↦ λ is. sym (same_some root_file entry is)
    ]

-- ---- modes

untold_small : (cgroup : Cgroup) → OthersAreRoots cgroup → (by : Option Controller) (entry : Entry)
    → elim by [ None ↦ cgroup.freeze | Some controller ↦ other_in cgroup controller ] ≡ Some entry → entry.mode ≤ 511
untold_small cgroup roots None entry is =
    subst (λ (e : Entry). e.mode ≤ 511) (sym (roots.freeze entry is)) (omega arith)
untold_small cgroup roots (Some controller) entry is =
    subst (λ (e : Entry). e.mode ≤ 511) (sym (roots.others controller entry is)) (omega arith)

modes_small : (format : Format) (tables : List Members) (row : Members) (cgroup : Cgroup) → IsEntryOf format tables row cgroup
    → (name : EntryName) (entry : Entry) → entry_in cgroup name ≡ Some entry → entry.mode ≤ 511
modes_small format tables row cgroup is (Other file) entry there = untold_small cgroup is.roots (brought_by file) entry there
modes_small format tables row cgroup is Dir entry there = entry_small format row Dir entry (is.entries Dir entry refl there)
modes_small format tables row cgroup is Procs entry there = entry_small format row Procs entry (is.entries Procs entry refl there)
modes_small format tables row cgroup is SubtreeControl entry there =
    entry_small format row SubtreeControl entry (is.entries SubtreeControl entry refl there)
modes_small format tables row cgroup is (File file) entry there =
    entry_small format row (File file) entry (is.entries (File file) entry refl there)

-- ---- look-ups

-- the state of these cgroups and processes
abbrev pub state_with : map.FinMap path_cmp Cgroup → map.FinMap path_cmp ToldFiles → map.FinMap nat_cmp Process → set.FinSet nat_cmp
    → ControllerSet → State
state_with rows told live used controllers = record { rows = rows; told = told; live = live; used = used; controllers = controllers }

pub found_by_path : {X : Type 0} (path : Names) (es : List (Names × X)) → map.find path_cmp path es ≡ lookup (same_path path) es
found_by_path path [] = refl
found_by_path path (e ∷ es) =
    let here = sym (same_path-ties path e.0) in
    let later = found_by_path path es in
    λ i. cond (here i) (Some e.1) (later i)

over_with : (b : Bool) (at_root : ControllerSet) (found : Option Cgroup) (there : Bool) → is_some found ≡ there → (b || there) ≡ true
    → cond b (Some at_root) (option_map (λ (c : Cgroup). c.enabled) found) ≡ Some
    (cond b at_root (elim found [ None ↦ no_controllers | Some row ↦ row.enabled ]))
over_with b at_root found there is so = grind arith

implied : (a b : Bool) → (not a || b) ≡ true → a ≡ true → b ≡ true
implied a b h so = grind arith

-- ---- what is told

below_root : (format : Format) (row : Members) (path : Names) (above : ControllerSet) (files : ToldFiles)
    → told_row format row ≡ Some files → tell_standing path above (told_row format row) ≡ true → is_root path ≡ false
below_root format row path above files is stands =
    not-true (is_root path) (and_parts (not (is_root path)) _ (ap (tell_standing path above) (sym is) ∙ stands)).0

formed_told : (format : Format) (row : Members) (path : Names) (above : ControllerSet) (files : ToldFiles)
    → told_row format row ≡ Some files → tell_standing path above (told_row format row) ≡ true → IsFormedTold above files
formed_told format row path above files is stands =
    let standing : tell_standing path above (Some files) ≡ true = ap (tell_standing path above) (sym is) ∙ stands in
    let brought : OtherFile → Bool = λ file. not (is_some (told_in files file)) || stands_by above (brought_by file) in
    let each = each_other brought (and_parts (not (is_root path)) (list_all brought all_others) standing).1 in
    let said = row_told format row files is in
    record {
      stand = λ file told there. implied (is_some (told_in files file)) (stands_by above (brought_by file)) (each file) (ap is_some there);
      modes = λ file told there. told_small format row file told (sym (said.each file) ∙ there);
    }

module _ (format : Format) (document : Members) (controllers : ControllerSet) (entries : List (Names × Cgroup))
    (read : first (each_cgroup (λ _. row_faults format) (tables_at (codes "cgroup") document)) ≡ None)
    (walked : (first (cgroup_faults format (Some controllers) (tables_at (codes "cgroup") document)) ≡ None)
    × AreEntriesOf format (tables_at (codes "cgroup") document) entries) where
  abbrev tables : List Members
  tables = tables_at (codes "cgroup") document

  alone : each_cgroup (λ _. row_faults format) tables ≡ []
  alone = none_of_first _ read

  together : cgroup_faults format (Some controllers) tables ≡ []
  together = none_of_first _ walked.0

  abbrev are : AreEntriesOf format tables entries
  are = walked.1

  abbrev cgroups : map.FinMap path_cmp Cgroup
  cgroups = map.from_sorted entries

  paths_once : IsOnce (path_said (codes "path")) same_path tables
  paths_once = record {
    new = λ before row after is path named. (stands_among format controllers tables together before row after is path named).fresh;
  }

  -- ---- the look-ups

  get_is : (path : Names) → map.get cgroups path ≡ lookup (same_path path) entries
  get_is path = map.get-from_sorted path_cmp entries path (passes _ are.sorted) ∙ found_by_path path entries

  found_is : (path : Names) → is_some (find (has_path path) tables) ≡ is_some (map.get cgroups path)
  found_is path = is_some-find (has_path path) tables ∙ sym (are.there path) ∙ sym (ap is_some (get_is path))

  enabled_is : (path : Names) (found : Option Cgroup) → map.get cgroups path ≡ found
      → option_map (λ cgroup. cgroup.enabled) found ≡ enabled_there tables path
  enabled_is path None is =
      let none = none_value (find (has_path path) tables) (found_is path ∙ ap is_some is) in
      ap (option_and_then (controllers_said (codes "enabled"))) (sym none)
  enabled_is path (Some cgroup) is =
      let table = some_value (find (has_path path) tables) (found_is path ∙ ap is_some is) in
      sym (ap (option_and_then (controllers_said (codes "enabled"))) table.1
      ∙ (said_of_known format (codes "enabled") table.0 _ (are.each path cgroup table.0 (sym (get_is path) ∙ is) table.1).enabled).0)

  among : IsAmong tables cgroups
  among = record {
    there = λ path. ap is_some (get_is path) ∙ are.there path;
    enabled = λ path. enabled_is path (map.get cgroups path) refl;
  }

  -- the table of a cgroup
  record HasTable (path : Names) (cgroup : Cgroup) : Type 0 where
    before : List Members
    table : Members
    found : find (has_path path) tables ≡ Some table
    named : path_said (codes "path") table ≡ Some path
    stands : StandsAmong format controllers tables before table path
    entry : IsEntryOf format tables table cgroup

  table_at : (path : Names) (cgroup : Cgroup) → map.get cgroups path ≡ Some cgroup → HasTable path cgroup
  table_at path cgroup is =
      let table = some_value (find (has_path path) tables) (found_is path ∙ ap is_some is) in
      let found = found_at (has_path path) tables table.0 table.1 in
      let named = key_had (path_said (codes "path")) same_path same_path-is same_path_refl path table.0 found.passes in
      record {
        before = found.before;
        table = table.0;
        found = table.1;
        named = named;
        stands = stands_among format controllers tables together found.before table.0 found.after found.split path named;
        entry = are.each path cgroup table.0 (sym (get_is path) ∙ is) table.1;
      }

  module _ (told : List (Names × ToldFiles)) (telling : AreToldOf format tables told)
      (live : map.FinMap nat_cmp Process) (used : set.FinSet nat_cmp) where
    abbrev st : State
    st = state_with cgroups (map.from_sorted told) live used controllers

    told_is : (path : Names) → map.get st.told path ≡ option_and_then (told_row format) (find (has_path path) tables)
    told_is path = map.get-from_sorted path_cmp told path (passes _ telling.sorted) ∙ found_by_path path told ∙ telling.each path

    over_is : (at_root : ControllerSet) (path : Names) → (is_root path || is_there tables (parent path)) ≡ true
        → over (Some at_root) tables path ≡ Some (cond (is_root path) at_root (enabled_at st (parent path)))
    over_is at_root path there =
        ap (cond (is_root path) (Some at_root)) (sym (among.enabled (parent path)))
        ∙ over_with (is_root path) at_root (map.get cgroups (parent path)) (is_there tables (parent path)) (among.there (parent path)) there

    -- ---- a well-formed state

    parents_there : (path : Names) → has_row st path ≡ true → has_row st (parent path) ≡ true
    parents_there path is =
        let cgroup = some_value (map.get cgroups path) is in
        elim (is_root path) as (λ b. is_root path ≡ b → (b || is_there tables (parent path)) ≡ true → has_row st (parent path) ≡ true) [
          | true ↦ λ root _. ap (has_row st) (parent-root path root) ∙ is
          | false ↦ λ _ there. among.there (parent path) ∙ there
        ] refl (table_at path cgroup.0 cgroup.1).stands.parent_there

    rows_within : (path : Names) (cgroup : Cgroup) → row_at st path ≡ Some cgroup → is_within cgroup.enabled (available_at st path) ≡ true
    rows_within path cgroup is =
        let at = table_at path cgroup is in
        at.stands.within cgroup.enabled (available_at st path) (said_of_known format (codes "enabled") at.table _ at.entry.enabled).0
        (over_is controllers path at.stands.parent_there)

    rows_formed : (path : Names) (cgroup : Cgroup) → row_at st path ≡ Some cgroup → IsFormedRow (enabled_above st path) cgroup
    rows_formed path cgroup is =
        let at = table_at path cgroup is in
        record {
          files = at.entry.files path (enabled_above st path) at.named (over_is no_controllers path at.stands.parent_there);
          others = at.entry.others path (enabled_above st path) at.named (over_is no_controllers path at.stands.parent_there);
          values = λ file held there. value_accepted file at.table held.value (at.entry.values file held there);
          modes = modes_small format tables at.table cgroup at.entry;
        }

    told_formed : (path : Names) (files : ToldFiles) → map.get st.told path ≡ Some files
        → (has_row st path ≡ true) × (is_root path ≡ false) × IsFormedTold (enabled_above st path) files
    told_formed path files is =
        let row = and_then_from (told_row format) (find (has_path path) tables) files (sym (told_is path) ∙ is) in
        let cgroup = some_value (map.get cgroups path) (sym (found_is path) ∙ ap is_some row.1) in
        let at = table_at path cgroup.0 cgroup.1 in
        let tells : told_row format at.table ≡ Some files =
        ap (told_row format) (same_some at.table row.0 (sym at.found ∙ row.1)) ∙ row.2 in
        let above : ControllerSet = enabled_above st path in
        let stands = at.stands.tells above (over_is no_controllers path at.stands.parent_there) in (
          ap is_some cgroup.1,
          below_root format at.table path above files tells stands,
          formed_told format at.table path above files tells stands,
        )

    -- ---- the tables' rows

    row_is : IsInForm format document → (before : List Members) (row : Members) (after : List Members) → before ++ row ∷ after ≡ tables
        → IsRowOf format st row
    row_is form before row after is =
        let passed = none_at (λ _. row_faults format) AtCgroup tables alone before row after is in
        let said = row_says format passed.0 row passed.1 in
        let path = said.path in
        let stands = stands_among format controllers tables together before row after is path said.named in
        let found : find (has_path path) tables ≡ Some row = once_found
        (path_said (codes "path")) same_path same_path-is same_path_refl tables paths_once before row after is path said.named in
        let cgroup = some_value (map.get cgroups path) (sym (found_is path) ∙ ap is_some found) in
        let entry : IsEntryOf format tables row cgroup.0 = are.each path cgroup.0 row (sym (get_is path) ∙ cgroup.1) found in
        let above : ControllerSet = enabled_above st path in
        let above_is = over_is no_controllers path stands.parent_there in
        record {
          path = path;
          cgroup = cgroup.0;
          there = cgroup.1;
          named = said.named;
          enabled = entry.enabled;
          entries = entry.entries;
          values = entry.values;
          files = files_named row cgroup.0 (λ file named. entry.files path above said.named above_is file
              ∙ implied (is_named (File file) row) (stands_under above file) (stands.brought above above_is file) named);
          others = entry.roots;
          told = told_is path ∙ ap (option_and_then (told_row format)) found;
          told_values = known_told format row
              (table_fits (row_keys format) (elements_at (codes "cgroup") document) form.cgroups before row after is) said.told;
        }
      where
        files_named : (row : Members) (cgroup : Cgroup) → ((file : LimitFile) → is_named (File file) row ≡ true
            → is_some (file_of cgroup file) ≡ true)
            → (name : EntryName) → is_beyond name ≡ false → is_named name row ≡ true → is_some (entry_in cgroup name) ≡ true
        files_named row cgroup each (File file) within named =
            is_some-mapped (λ (f : LimitEntry). f.entry) (file_of cgroup file) ∙ each file named
        files_named row cgroup each Dir within named = refl
        files_named row cgroup each Procs within named = refl
        files_named row cgroup each SubtreeControl within named = refl
        files_named row cgroup each (Other file) within named = absurd (true≢false within)

    rows_are : IsInForm format document → AllByRecursion (IsRowOf format st) tables
    rows_are form = all_rows (IsRowOf format st) [] tables (row_is form)

    paths_counted : (path : Names) → count_by (has_path path) tables ≡ cond (has_row st path) 1 0
    paths_counted path =
        once_counted (path_said (codes "path")) same_path same_path-is same_path_refl tables paths_once path
        ∙ ap (λ b. cond b 1 0) (sym (among.there path))

    -- ---- processes

    module _ (made_of : (first (each_process (process_faults tables) (tables_at (codes "process") document)) ≡ None)
        × AreProcesses (tables_at (codes "process") document) live used) where
      abbrev lives : List Members
      lives = tables_at (codes "process") document

      living : each_process (process_faults tables) lives ≡ []
      living = none_of_first _ made_of.0

      abbrev these : AreProcesses lives live used
      these = made_of.1

      said_at : (before : List Members) (row : Members) (after : List Members) → before ++ row ∷ after ≡ lives
          → SaysProcess tables before row
      said_at before row after is =
          let passed = none_at (process_faults tables) AtProcess lives living before row after is in
          process_says tables before passed.0 row passed.1

      pids_once : IsOnce pid_said nat_eq lives
      pids_once = record {
        new = λ before row after is pid said.
            let says = said_at before row after is in
            ap (λ pid. list_any (has_pid pid) before) (same_some pid says.pid (sym said ∙ says.numbered)) ∙ says.fresh;
      }

      placed : (pid : ℕ) (process : Process) → process_at st pid ≡ Some process → may_hold st process.place ≡ true
      placed pid process is =
          let of_row = these.processes pid process is in
          let at = found_at (has_pid pid) lives of_row.0 of_row.1 in
          let says = said_at at.before of_row.0 at.after at.split in
          let same : process.place ≡ says.place = same_some process.place says.place (sym of_row.2.place ∙ says.placed) in
          let cgroup = some_value (map.get cgroups says.place) (among.there says.place ∙ says.there) in
          let enabled = sym (among.enabled says.place) ∙ ap (option_map (λ (c : Cgroup). c.enabled)) cgroup.1 in
          ap (may_hold st) same ∙ row-may_hold st says.place cgroup.0 cgroup.1 (says.free cgroup.0.enabled enabled)

      formed : IsWellFormed st
      formed = record {
        root = among.there [] ∙ root_there format controllers tables together;
        parents = parents_there;
        top_down = rows_within;
        rows = rows_formed;
        freeze = λ path cgroup is. let at = table_at path cgroup is in at.entry.freeze path at.named;
        told = λ path files is. let known = told_formed path files is in (known.0, known.2);
        told_below_root = λ path files is. (told_formed path files is).1;
        places = placed;
        used = λ pid process is. these.used pid ∙ ap is_some is;
      }

      nat_itself : (a : ℕ) → nat_eq a a ≡ true
      nat_itself a = eq-eqb a a refl

      process_is : (before : List Members) (row : Members) (after : List Members) → before ++ row ∷ after ≡ lives → IsProcessOf st row
      process_is before row after is =
          let says = said_at before row after is in
          let pid = says.pid in
          let found : find (has_pid pid) lives ≡ Some row =
          once_found pid_said nat_eq eqb-true nat_itself lives pids_once before row after is pid says.numbered in
          let process = some_value (process_at st pid) (these.pids pid ∙ sym (is_some-find (has_pid pid) lives) ∙ ap is_some found) in
          let of_row = these.processes pid process.0 process.1 in
          let live : IsLive row (pid, process.0) = subst (λ other. IsLive other (pid, process.0))
          (same_some of_row.0 row (sym of_row.1 ∙ found)) of_row.2 in
          record { pid = pid; process = process.0; there = process.1; named = says.numbered; owner = live.uid; place = live.place }

      processes_are : AllByRecursion (IsProcessOf st) lives
      processes_are = all_rows (IsProcessOf st) [] lives process_is

      pids_counted : (pid : ℕ) → count_by (has_pid pid) lives ≡ cond (is_some (process_at st pid)) 1 0
      pids_counted pid = once_counted pid_said nat_eq eqb-true nat_itself lives pids_once pid ∙ ap (λ b. cond b 1 0) (sym (these.pids pid))

      -- ---- as the reader has them

      module _ (found : map.FinMap path_cmp Cgroup) (made : found ≡ cgroups)
          (known : map.FinMap path_cmp ToldFiles) (made_known : known ≡ map.from_sorted told) where
        -- the document is of these cgroups and processes, and of what is told of their files
        pub document_is_of : IsInForm format document → known_said format (codes "controllers") document ≡ Some controllers
            → IsDocumentOf (state_with found known live used controllers) document
        document_is_of form said =
            subst (λ cgroups. IsDocumentOf (state_with cgroups known live used controllers) document) (sym made)
            (subst (λ known. IsDocumentOf (state_with cgroups known live used controllers) document) (sym made_known)
            (record {
              format = format;
              form = form;
              controllers = said;
              cgroups = rows_are form;
              paths = paths_counted;
              processes = processes_are;
              pids = pids_counted;
              used = these.used;
              formed = formed;
            }))

  pub among_these : (found : map.FinMap path_cmp Cgroup) → found ≡ cgroups → IsAmong tables found
  among_these found made = subst (IsAmong tables) (sym made) among
