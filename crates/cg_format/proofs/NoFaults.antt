-- A text that is of a state has no fault.
use Rattle.std.proofs.Common.{◌≡◌, ℕ, suc, filter, ◌+◌, Bool, true, false, not, cond, ◌||◌, nat_le, le-leb, List, [], ◌∷◌, ◌++◌, length, codes, Option, Some, None, is_some, option_map, option_and_then, unwrap_or, refl, sym, ap, ◌∙◌, true≢false, append_assoc, eq-eqb, arith}
use Rattle.std.specs.Prelude.{count_by, nat_eq}
use Rattle.std.specs.List.{AllByRecursion, list_all, list_any}
use Rattle.std.proofs.lemmas.Bool.{and_parts, and_from, or_right, false_from_ne_true}
use Rattle.std.proofs.lemmas.List.{append-nil, length-append, nil_from_length}
use Rattle.std.proofs.lemmas.List.Sums.{length-filter}
use Rattle.toml.specs.Data.{Data, Members, no_members}
use Rattle.cg_cgroup.specs.Paths.{Names, same_path, is_root, parent}
use Rattle.cg_cgroup.specs.Files.{all_files, all_others, known_others, known_entries, brought_by, no_controllers, enables_nothing, stands_by, stands_under}
use Rattle.cg_cgroup.specs.Told.{told_in}
use Rattle.cg_cgroup.specs.Cgroups.{file_of}
use Rattle.cg_cgroup.specs.declared.user.Entry.{Entry}
use Rattle.cg_cgroup.specs.declared.controllers.ControllerSet.{ControllerSet}
use Rattle.cg_cgroup.specs.declared.files.LimitFile.{LimitFile}
use Rattle.cg_cgroup.specs.declared.files.EntryName.{EntryName}
use Rattle.cg_cgroup.specs.declared.files.EntryName.TheVariants.{Dir, Procs, SubtreeControl, File, Other}
use Rattle.cg_cgroup.specs.declared.other_file.OtherFile.{OtherFile}
use Rattle.cg_cgroup.specs.declared.cgroup.LimitEntry.{LimitEntry}
use Rattle.cg_cgroup.proofs.Options.{some_value, none_value, is_some-mapped}
use Rattle.cg_cgroup.proofs.PathOrder.{same_path_refl}
use Rattle.cg_model.specs.Clauses.{unless, absent, present}
use Rattle.cg_model.specs.States.{State, row_at, process_at}
use Rattle.cg_model.specs.WellFormed.{has_row, enabled_at, enabled_above, IsWellFormed}
use Rattle.cg_model.proofs.FormedParts.{may_hold-row}
use Rattle.cg_format.specs.Form.{Key, vocabulary, most_rows, row_keys, live_keys, is_table}
use Rattle.cg_format.specs.Said.{elements_at, tables_at, controllers_said, owner_said, limit_said, table_of, entry_said, value_said, text_said, is_named, told_row, has_path}
use Rattle.cg_format.specs.TextOf.{IsInForm, IsRowOf, IsProcessOf, has_pid, IsDocumentOf, IsTextOf}
use Rattle.cg_format.specs.TextFaults.{each, each_cgroup, each_process, has_few, form_faults, has_values, row_faults, is_there, enabled_there, over, tell_standing, names_standing, cgroup_faults, process_faults, said_faults, document_faults, text_faults}
use Rattle.cg_format.specs.TreeTexts.{longest_text}
use Rattle.cg_format.specs.declared.fault.Place.{Place}
use Rattle.cg_format.specs.declared.fault.Place.TheVariants.{Top, Cgroup as AtCgroup, Process as AtProcess}
use Rattle.cg_format.specs.declared.fault.TreeFault.{TreeFault}
use Rattle.cg_format.specs.declared.fault.TreeFault.TheVariants.{TooLong, NotToml, Shape, Format as BadFormat, TooMany, BadController, BadPath, BadEntry, BadValue, NoRoot, NoSuchFile, InternalProcess}
use Rattle.cg_format.specs.declared.format.Format.{Format}
use Rattle.cg_format.proofs.SaidRanges.{said_of_known}
use Rattle.cg_format.proofs.ToldSaid.{nobody, named_told-parts}
use Rattle.cg_format.proofs.TablesSay.{all_so}
use Rattle.cg_format.proofs.CgroupClauses.{twice_clause, orphan_clause, within_clause, files_clause}
use Rattle.cg_format.proofs.Cuts.{head_of, is_some-find, any_filter, filter_cut}
use Rattle.cg_format.proofs.OneState.{Passes, one_passes, path_is, enabled_in}

-- ---- clauses that find nothing

module _ {A : Type 0} (P : A → Type 0) (clauses : List A → Place → A → List TreeFault) (place : ℕ → Place) where
  abbrev FindNone : List A → Type 0
  FindNone all =
      (before : List A) (row : A) (after : List A) → before ++ row ∷ after ≡ all → P row → (here : Place) → clauses before here row ≡ []

  none_from : (earlier rows : List A) (i : ℕ) → AllByRecursion P rows → FindNone (earlier ++ rows) → each clauses place i earlier rows ≡ []
  none_from earlier [] i all none = refl
  none_from earlier (row ∷ rows) i all none =
      let here = none earlier row rows refl all.0 (place i) in
      let later = none_from (earlier ++ row ∷ []) rows (i + 1) all.1
      (λ before x after is. none before x after (is ∙ append_assoc earlier (row ∷ []) rows)) in
      λ j. here j ++ later j

  none_of_each : (all : List A) → AllByRecursion P all → FindNone all → each clauses place 1 [] all ≡ []
  none_of_each all holds none = none_from [] all 1 holds none

-- ---- lists

all_of : {A : Type 0} (p : A → Bool) (xs : List A) → list_all p xs ≡ true → AllByRecursion (λ x. p x ≡ true) xs
all_of p [] all = tt
all_of p (x ∷ xs) all =
    let parts = and_parts (p x) (list_all p xs) all in
    (parts.0, all_of p xs parts.1)

-- before the one that passes a test none does
none_before : {A : Type 0} (p : A → Bool) (all before : List A) (x : A) (after : List A) (b : Bool) → before ++ x ∷ after ≡ all
    → count_by p all ≡ cond b 1 0 → p x ≡ true → list_any p before ≡ false
none_before p all before x after b is count here =
    let sum = sym (length-append (filter p before) (x ∷ filter p after)) ∙ ap length (sym (filter_cut p before x after here) ∙ ap
    (filter p) is)
    ∙ length-filter p all ∙ count in
    any_filter p before ∙ ap (λ some. is_some (head_of some)) (nil_from_length (filter p before) (one_at_most _ _ b sum))
  where
    one_at_most : (m n : ℕ) (b : Bool) → m + suc n ≡ cond b 1 0 → m ≡ 0
    one_at_most m n true is = omega arith
    one_at_most m n false is = omega arith

-- ---- form

shapes_fit : (keys : List Key) (place : ℕ → Place) (some : List Data) → list_all (is_table keys) some ≡ true
    → each (λ _ here held. unless (is_table keys held) (Shape here)) place 1 [] some ≡ []
shapes_fit keys place some all =
    none_of_each (λ held. is_table keys held ≡ true) (λ _ here held. unless (is_table keys held) (Shape here)) place some
    (all_of (is_table keys) some all) (λ before held after is fits here. ap (λ b. unless b (Shape here)) fits)

form_has_none : (document : Members) (format : Format) → IsInForm format document → form_faults document ≡ []
form_has_none document format form =
    let cgroups : List Data = elements_at (codes "cgroup") document in
    let processes : List Data = elements_at (codes "process") document in
    let few : has_few format document ≡ true =
    and_from (nat_le (length cgroups) (most_rows format)) (nat_le (length processes) (most_rows format))
    (le-leb (length cgroups) (most_rows format) form.few_cgroups) (le-leb (length processes) (most_rows format) form.few_processes) in
    let cgroups_fit = shapes_fit (row_keys format) AtCgroup cgroups form.cgroups in
    let processes_fit = shapes_fit live_keys AtProcess processes form.processes in
    (λ i. unless (form.top i) (Shape Top) ++ absent (form.format i) BadFormat
    ++ present (form.format i) (λ format. unless (has_few format document) TooMany)
    ++ present (form.format i) (λ format. each_cgroup (λ _ place held. unless (is_table (row_keys format) held) (Shape place)) cgroups)
    ++ each_process (λ _ place held. unless (is_table live_keys held) (Shape place)) processes)
    ∙ (λ i. unless (few i) TooMany ++ cgroups_fit i ++ processes_fit i)

-- ---- a cgroup by itself

module _ (format : Format) (st : State) (row : Members) (is : IsRowOf format st row) where
  unnamed : (file : LimitFile) → file_of is.cgroup file ≡ None → table_of (File file) row ≡ None
  unnamed file none =
      let entry_of : Option LimitEntry → Option Entry = option_map (λ (f : LimitEntry). f.entry) in
      none_value (table_of (File file) row) (false_from_ne_true (is_named (File file) row) (λ named.
      true≢false (sym (is.files (File file) refl named) ∙ ap (λ o. is_some (entry_of o)) none)))

  file_said : (file : LimitFile) (found : Option LimitEntry) → file_of is.cgroup file ≡ found
      → (is_some (entry_said format row (File file)) ≡ true) × (is_some (value_said row file) ≡ true)
  file_said file None none =
      let missing : table_of (File file) row ≡ None = unnamed file none in (
        ap (λ o. is_some (owner_said format 420 (unwrap_or o no_members))) missing ∙ nobody format,
        ap (λ o. is_some (limit_said file (unwrap_or o no_members))) missing,
      )
  file_said file (Some held) there = (
    ap is_some (is.entries (File file) held.entry refl (ap (option_map (λ (f : LimitEntry). f.entry)) there)),
    ap is_some (is.values file held there),
  )

  other_said : (file : OtherFile) → (is_some (entry_said format row (Other file)) ≡ true)
      × (is_some (text_said (unwrap_or (table_of (Other file) row) no_members)) ≡ true)
  other_said file = named_told-parts format row file (is.told_values file)

  each_entry : (name : EntryName) → is_some (entry_said format row name) ≡ true
  each_entry Dir = ap is_some (is.entries Dir is.cgroup.dir refl refl)
  each_entry Procs = ap is_some (is.entries Procs is.cgroup.procs refl refl)
  each_entry SubtreeControl = ap is_some (is.entries SubtreeControl is.cgroup.subtree_control refl refl)
  each_entry (File file) = (file_said file (file_of is.cgroup file) refl).0
  each_entry (Other file) = (other_said file).0

  each_value : (file : LimitFile) → is_some (value_said row file) ≡ true
  each_value file = (file_said file (file_of is.cgroup file) refl).1

  row_has_none : (place : Place) → row_faults format place row ≡ []
  row_has_none place =
      let entries = all_so (λ name. is_some (entry_said format row name)) each_entry (known_entries (vocabulary format)) in
      let values : has_values format row ≡ true =
      and_from (list_all (λ file. is_some (value_said row file)) all_files) _
      (all_so (λ file. is_some (value_said row file)) each_value all_files)
      (all_so (λ file. is_some (text_said (unwrap_or (table_of (Other file) row) no_members))) (λ file. (other_said file).1)
      (known_others (vocabulary format))) in
      λ i. absent (is.named i) (BadPath place) ++ absent (is.enabled i) (BadController place) ++ unless (entries i) (BadEntry place)
      ++ unless (values i) (BadValue place)

-- ---- the cgroups together

either : {A : Type 0} (b : Bool) (x y : A) → cond b (Some x) (Some y) ≡ Some (cond b x y)
either b x y = grind arith

where_named : (a b : Bool) → (a ≡ true → b ≡ true) → (not a || b) ≡ true
where_named a b so = grind arith

module _ (format : Format) (st : State) (tables : List Members) (all : AllByRecursion (IsRowOf format st) tables)
    (paths : (path : Names) → count_by (has_path path) tables ≡ cond (has_row st path) 1 0) (formed : IsWellFormed st) where
  found : (path : Names) → has_row st path ≡ true → Passes (IsRowOf format st) (has_path path) tables
  found path there = one_passes (IsRowOf format st) (has_path path) tables (has_row st path) all (paths path) there

  there_so : (path : Names) → has_row st path ≡ true → is_there tables path ≡ true
  there_so path there =
      let one = found path there in
      sym (is_some-find (has_path path) tables) ∙ ap is_some one.3

  enabled_so : (path : Names) → has_row st path ≡ true → enabled_there tables path ≡ Some (enabled_at st path)
  enabled_so path there =
      let one = found path there in
      let row : row_at st path ≡ Some one.1.cgroup = ap (row_at st) (path_is path one.1.path one.0 one.1.named one.2) ∙ one.1.there in
      ap (option_and_then (controllers_said (codes "enabled"))) one.3
      ∙ (said_of_known format (codes "enabled") one.0 _ one.1.enabled).0 ∙ sym (ap (λ o. Some (enabled_in o)) row)

  over_so : (at_root : ControllerSet) (path : Names) → has_row st path ≡ true
      → over (Some at_root) tables path ≡ Some (cond (is_root path) at_root (enabled_at st (parent path)))
  over_so at_root path there =
      ap (cond (is_root path) (Some at_root)) (enabled_so (parent path) (formed.parents path there))
      ∙ either (is_root path) at_root (enabled_at st (parent path))

  has_own : (row : Members) (is : IsRowOf format st row) → has_path is.path row ≡ true
  has_own row is =
      ap (λ (o : Option Names). elim o [ None ↦ false | Some said ↦ same_path is.path said ]) is.named ∙ same_path_refl is.path

  rows_have_none : each_cgroup (λ _. row_faults format) tables ≡ []
  rows_have_none =
      none_of_each (IsRowOf format st) (λ _. row_faults format) AtCgroup tables all
      (λ before row after cut is here. row_has_none format st row is here)

  none_twice : each_cgroup twice_clause tables ≡ []
  none_twice =
      none_of_each (IsRowOf format st) twice_clause AtCgroup tables all (λ before row after cut is here.
      rw (is.named, none_before (has_path is.path) tables before row after (has_row st is.path) cut (paths is.path) (has_own row is)))

  none_orphan : each_cgroup (orphan_clause tables) tables ≡ []
  none_orphan =
      none_of_each (IsRowOf format st) (orphan_clause tables) AtCgroup tables all (λ before row after cut is here.
      rw (is.named, or_right (is_root is.path) _ (there_so (parent is.path) (formed.parents is.path (ap is_some is.there)))))

  none_past : each_cgroup (within_clause st.controllers tables) tables ≡ []
  none_past =
      none_of_each (IsRowOf format st) (within_clause st.controllers tables) AtCgroup tables all (λ before row after cut is here.
      rw (
        is.named,
        (said_of_known format (codes "enabled") row _ is.enabled).0,
        over_so st.controllers is.path
            (ap is_some is.there),
        formed.top_down is.path is.cgroup is.there,
      ))

  stands : (row : Members) (is : IsRowOf format st row) (file : LimitFile) → is_named (File file) row ≡ true
      → stands_under (enabled_above st is.path) file ≡ true
  stands row is file named =
      sym ((formed.rows is.path is.cgroup is.there).files file)
      ∙ sym (is_some-mapped (λ (f : LimitEntry). f.entry) (file_of is.cgroup file)) ∙ is.files (File file) refl named

  told_stands : (row : Members) (is : IsRowOf format st row) → tell_standing is.path (enabled_above st is.path) (told_row format row) ≡ true
  told_stands row is =
      elim (told_row format row) as (λ told. told_row format row ≡ told → tell_standing is.path (enabled_above st is.path) told ≡ true) [
        | None ↦ λ _. refl
        | Some files ↦ λ tells.
            let above : ControllerSet = enabled_above st is.path in
            let formed_told = (formed.told is.path files (is.told ∙ tells)).1 in
            and_from (not (is_root is.path)) _ (ap not (formed.told_below_root is.path files (is.told ∙ tells)))
            (all_so (λ file. not (is_some (told_in files file)) || stands_by above (brought_by file))
            (λ file. where_named (is_some (told_in files file)) (stands_by above (brought_by file)) (λ known.
            let told = some_value (told_in files file) known in
            formed_told.stand file told.0 told.1)) all_others)
      ] refl

  none_misplaced : each_cgroup (files_clause format tables) tables ≡ []
  none_misplaced =
      none_of_each (IsRowOf format st) (files_clause format tables) AtCgroup tables all (λ before row after cut is here.
      let above : ControllerSet = enabled_above st is.path in
      let brought = all_so (λ file. not (is_named (File file) row) || stands_under above file)
      (λ file. where_named (is_named (File file) row) (stands_under above file) (stands row is file)) all_files in
      let standing : names_standing format is.path above row ≡ true = and_from _ _ brought (told_stands row is) in
      rw (is.named, over_so no_controllers is.path (ap is_some is.there)) (ap (λ b. unless b (NoSuchFile here)) standing))

  cgroups_have_none : cgroup_faults format (Some st.controllers) tables ≡ []
  cgroups_have_none =
      let root = there_so [] formed.root in
      λ i. none_twice i ++ unless (root i) NoRoot ++ none_orphan i ++ none_past i ++ none_misplaced i

  -- ---- processes

  module _ (lives : List Members) (each_live : AllByRecursion (IsProcessOf st) lives)
      (pids : (pid : ℕ) → count_by (has_pid pid) lives ≡ cond (is_some (process_at st pid)) 1 0) where
    process_has_none : (before : List Members) (row : Members) (is : IsProcessOf st row) → list_any (has_pid is.pid) before ≡ false
        → (place : Place) → process_faults tables before place row ≡ []
    process_has_none before row is new place =
        let path : Names = is.process.place in
        let holds = may_hold-row st path (formed.places is.pid is.process is.there) in
        let there : has_row st path ≡ true = ap is_some holds.1 in
        let one = found path there in
        rw (is.named, is.owner, is.place, new, enabled_so path there, one.3)
        (ap (λ o. unless (is_root path || enables_nothing (enabled_in o)) (InternalProcess place)) holds.1
        ∙ ap (λ b. unless b (InternalProcess place)) holds.2)

    own_pid : (row : Members) (is : IsProcessOf st row) → has_pid is.pid row ≡ true
    own_pid row is =
        ap (λ (o : Option ℕ). elim o [ None ↦ false | Some said ↦ nat_eq is.pid said ]) is.named ∙ eq-eqb is.pid is.pid refl

    processes_have_none : each_process (process_faults tables) lives ≡ []
    processes_have_none =
        none_of_each (IsProcessOf st) (process_faults tables) AtProcess lives each_live (λ before row after cut is here.
        process_has_none before row is
        (none_before (has_pid is.pid) lives before row after (is_some (process_at st is.pid)) cut (pids is.pid) (own_pid row is)) here)

-- ---- the whole

document_has_none : (document : Members) (st : State) → IsDocumentOf st document → document_faults document ≡ []
document_has_none document st is =
    let tables : List Members = tables_at (codes "cgroup") document in
    let lives : List Members = tables_at (codes "process") document in
    let form = form_has_none document is.format is.form in
    let alone = rows_have_none is.format st tables is.cgroups is.paths is.formed in
    let together = cgroups_have_none is.format st tables is.cgroups is.paths is.formed in
    let living = processes_have_none is.format st tables is.cgroups is.paths is.formed lives is.processes is.pids in
    (λ i. form i ++ present (is.form.format i) (λ format. said_faults format document))
    ∙ (λ i. absent (is.controllers i) (BadController Top) ++ alone i ++ cgroup_faults is.format (is.controllers i) tables ++ living i)
    ∙ append-nil _ ∙ together

pub no_faults : (bytes : List ℕ) (st : State) → IsTextOf st bytes → text_faults bytes ≡ []
no_faults bytes st is =
    let short = le-leb (length bytes) (longest_text bytes) is.short in
    (λ i. unless (short i) TooLong ++ absent (is.parsed i) NotToml ++ present (is.parsed i) document_faults)
    ∙ document_has_none is.document st is.says
