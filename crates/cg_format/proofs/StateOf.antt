-- A text without a fault is of a state: the cgroups and the processes that its tables say.
use Rattle.std.proofs.Common.{true≢false, ◌≡◌, ℕ, Bool, true, false, T, List, [], ◌∷◌, length, map as map_list, codes, Option, Some, is_some, option_and_then, option_map, unwrap_or, not, cond, None, arith, refl, sym, ap, subst, ◌∙◌}
use Rattle.std.specs.Prelude.{find, nat_eq}
use Rattle.std.specs.List.{AllByRecursion}
use Rattle.std.specs.Map.{lookup}
use Rattle.std.specs.Ordering.{nat_cmp}
use Rattle.std.specs.Cmp.{nat_cmp_total, unsigned_ties}
use Rattle.std.specs.FinMap as map
use Rattle.std.specs.FinMap.{nat_cmp-IsAntisymmetric, get-from_entries, get-entries, entries_sorted}
use Rattle.std.specs.FinMap.Entries.{is_sorted, is_some-find}
use Rattle.std.specs.FinSet as set
use Rattle.std.specs.FinSet.{contains-from_list}
use Rattle.std.proofs.lemmas.Bool.{leb-true}
use Rattle.toml.specs.Data.{Members}
use Rattle.cg_cgroup.specs.Paths.{Names, path_cmp, same_path, is_root}
use Rattle.cg_cgroup.specs.Files.{is_beyond, enables, no_controllers, stands_under}
use Rattle.cg_cgroup.specs.Cgroups.{file_of, files_by, others_under, root_file, entry_in}
use Rattle.cg_cgroup.proofs.CgroupLaws.{stands-under, entry-under}
use Rattle.cg_cgroup.proofs.Options.{same_some}
use Rattle.cg_cgroup.proofs.PathOrder.{path_cmp_total, path_cmp-IsAntisymmetric, same_path-ties, same_path_comm}
use Rattle.cg_cgroup.specs.declared.controllers.ControllerSet.{ControllerSet}
use Rattle.cg_cgroup.specs.declared.files.EntryName.{EntryName}
use Rattle.cg_cgroup.specs.declared.files.EntryName.TheVariants.{Dir, Procs, SubtreeControl, File, Other}
use Rattle.cg_cgroup.specs.declared.files.LimitFile.{LimitFile}
use Rattle.cg_cgroup.specs.declared.files.LimitFile.TheVariants.{MaxDescendants, MaxDepth}
use Rattle.cg_cgroup.specs.declared.user.Entry.{Entry}
use Rattle.cg_cgroup.specs.declared.files.Limit.{Limit}
use Rattle.cg_cgroup.specs.declared.cgroup.LimitEntry.{LimitEntry}
use Rattle.cg_cgroup.specs.declared.cgroup.Cgroup.{Cgroup}
use Rattle.cg_cgroup.specs.declared.told.ToldFiles.{ToldFiles}
use Rattle.cg_cgroup.specs.declared.process.Process.{Process}
use Rattle.cg_model.specs.Clauses.{present, first}
use Rattle.cg_model.specs.States.{State}
use Rattle.cg_model.proofs.StateLaws.{path_tie}
use Rattle.cg_model.proofs.ClauseLaws.{no_parts, no_unless}
use Rattle.cg_format.specs.Said.{tables_at, path_said, format_said, entry_said, value_said, told_row, has_path, pid_said}
use Rattle.cg_format.specs.TextOf.{has_pid, IsDocumentOf, IsTextOf}
use Rattle.cg_format.specs.TextFaults.{form_faults, said_faults, row_faults, over, cgroup_faults, process_faults, document_faults, text_faults}
use Rattle.cg_format.specs.TreeTexts.{longest_text}
use Rattle.cg_format.specs.Tables.{freeze_at, IsEntryOf, AreEntriesOf, AreToldOf, IsLive, AreProcesses}
use Rattle.cg_format.specs.declared.format.Format.{Format}
use Rattle.cg_format.specs.declared.fault.Place.TheVariants.{Cgroup as AtCgroup, Process as AtProcess}
use Rattle.cg_format.proofs.KeysOnce.{five_none, absent_none, none_say}
use Rattle.cg_format.proofs.TablesSay.{SaysCgroup, row_says, SaysProcess, process_says}
use Rattle.cg_format.proofs.FormClauses.{in_form}
use Rattle.cg_format.proofs.PairsOf.{pairs_of, pair_there, pair_found}
use Rattle.cg_format.proofs.DocumentOfLaws.{freeze-stands, freeze-roots, state_with, found_by_path, document_is_of}

-- ---- a cgroup's table

had : {A B : Type 0} (g : A → B) (b : Bool) (x : A) (y : B) → option_map g (cond b (Some x) None) ≡ Some y → g x ≡ y
had g b x y is = grind arith

stands : {A : Type 0} (b : Bool) (x : A) → is_some (cond b (Some x) None) ≡ b
stands b x = grind arith

module _ (format : Format) (row : Members) (says : SaysCgroup format row) (above : ControllerSet) where
  abbrev held : LimitFile → LimitEntry
  held file = record { entry = says.owner (File file); value = says.value file }

  -- a limit file, where it stands
  abbrev standing : LimitFile → Option LimitEntry
  standing file = cond (stands_under above file) (Some (held file)) None

  -- the cgroup of the table, under a parent that enables these controllers
  abbrev cgroup_of : Cgroup
  cgroup_of = record {
    dir = says.owner Dir;
    procs = says.owner Procs;
    subtree_control = says.owner SubtreeControl;
    max_descendants = held MaxDescendants;
    max_depth = held MaxDepth;
    freeze = freeze_at says.path;
    files = files_by standing;
    others = others_under above root_file;
    enabled = says.enabled;
  }

  file_is : (file : LimitFile) → file_of cgroup_of file ≡ standing file
  file_is MaxDescendants = refl
  file_is MaxDepth = refl
  file_is file = refl

  owned : (name : EntryName) (entry : Entry) → is_beyond name ≡ false → entry_in cgroup_of name ≡ Some entry
      → entry_said format row name ≡ Some entry
  owned Dir entry within is = says.owned Dir refl ∙ is
  owned Procs entry within is = says.owned Procs refl ∙ is
  owned SubtreeControl entry within is = says.owned SubtreeControl refl ∙ is
  owned (Other file) entry within is = absurd (true≢false within)
  owned (File file) entry within is =
      let entry_at : LimitEntry → Entry = λ held. held.entry in
      says.owned (File file) refl
      ∙ ap Some (had entry_at (stands_under above file) (held file) entry (ap (option_map entry_at) (sym (file_is file)) ∙ is))

  valued : (file : LimitFile) (found : LimitEntry) → file_of cgroup_of file ≡ Some found → value_said row file ≡ Some found.value
  valued file found is =
      let value_at : LimitEntry → Limit = λ held. held.value in
      says.valued file
      ∙ ap Some (had value_at (stands_under above file) (held file) found.value (ap (option_map value_at) (sym (file_is file) ∙ is)))

  entry_of : (tables : List Members) → ((other : ControllerSet) → over (Some no_controllers) tables says.path ≡ Some other → other ≡ above)
      → IsEntryOf format tables row cgroup_of
  entry_of tables same = record {
    enabled = says.enables;
    entries = owned;
    values = valued;
    files = λ path other said is file.
        let own : path ≡ says.path = same_some path says.path (sym said ∙ says.named) in
        let sets : other ≡ above = same other (ap (over (Some no_controllers) tables) (sym own) ∙ is) in
        ap is_some (file_is file) ∙ stands (stands_under above file) (held file)
        ∙ ap (λ (set : ControllerSet). stands_under set file) (sym sets);
    others = λ path other said is controller.
        let own : path ≡ says.path = same_some path says.path (sym said ∙ says.named) in
        let sets : other ≡ above = same other (ap (over (Some no_controllers) tables) (sym own) ∙ is) in
        stands-under above root_file cgroup_of refl controller ∙ ap (λ (set : ControllerSet). enables set controller) (sym sets);
    freeze = λ path said.
        freeze-stands says.path ∙ ap (λ path. not (is_root path)) (sym (same_some path says.path (sym said ∙ says.named)));
    roots = record { freeze = freeze-roots says.path; others = entry-under above root_file cgroup_of refl };
  }

-- ---- the cgroups

is_so : (b : Bool) → T b → b ≡ true
is_so true so = refl
is_so false so = absurd so

module _ (format : Format) (tables : List Members) where
  abbrev above : Names → ControllerSet
  above path = unwrap_or (over (Some no_controllers) tables path) no_controllers

  abbrev pair_of : (row : Members) → SaysCgroup format row → Names × Cgroup
  pair_of row says = (says.path, cgroup_of format row says (above says.path))

  module _ (all : AllByRecursion (SaysCgroup format) tables) where
    abbrev pairs : List (Names × Cgroup)
    pairs =
        pairs_of path_cmp-IsAntisymmetric (path_said (codes "path")) same_path same_path-ties
        (SaysCgroup format) pair_of (λ row says. says.named) tables all

    -- the cgroups that the tables say, in the order of their paths
    abbrev entries : List (Names × Cgroup)
    entries = map.entries (map.from_entries {R = path_cmp} pairs)

    entry_found : (path : Names) → lookup (same_path path) entries ≡ map.find path_cmp path pairs
    entry_found path =
        sym (found_by_path path entries) ∙ sym (get-entries (map.from_entries {R = path_cmp} pairs) path)
        ∙ get-from_entries path_cmp_total pairs path

    entry_read : (row : Members) (says : SaysCgroup format row) → IsEntryOf format tables row (pair_of row says).1
    entry_read row says =
        entry_of format row says (above says.path) tables
        (λ other is. sym (ap (λ (o : Option ControllerSet). unwrap_or o no_controllers) is))

    each_is : (path : Names) (cgroup : Cgroup) (row : Members) → lookup (same_path path) entries ≡ Some cgroup
        → find (has_path path) tables ≡ Some row → IsEntryOf format tables row cgroup
    each_is path cgroup row is found =
        let gives = pair_found path_cmp-IsAntisymmetric (path_said (codes "path")) same_path same_path-ties
        (SaysCgroup format) pair_of (λ row says. says.named) path cgroup tables all (sym (entry_found path) ∙ is) in
        let same : gives.row ≡ row = same_some gives.row row (sym gives.found ∙ found) in
        subst (λ (r : Members). IsEntryOf format tables r cgroup) same
        (subst (λ (c : Cgroup). IsEntryOf format tables gives.row c) gives.value_is (entry_read gives.row gives.is))

    are_entries : AreEntriesOf format tables entries
    are_entries = record {
      sorted = is_so (is_sorted path_cmp entries) (entries_sorted (map.from_entries {R = path_cmp} pairs));
      there = λ path.
          ap is_some (entry_found path)
          ∙ pair_there path_cmp-IsAntisymmetric (path_said (codes "path")) same_path same_path-ties
          (SaysCgroup format) pair_of (λ row says. says.named) path tables all;
      each = each_is;
    }

-- ---- what is told of their files

-- what a row tells, over what later ones do
abbrev with_told : map.FinMap path_cmp ToldFiles → Names → Option ToldFiles → map.FinMap path_cmp ToldFiles
with_told known path None = map.remove known path
with_told known path (Some files) = map.insert known path files

get-with_told : (known : map.FinMap path_cmp ToldFiles) (path : Names) (told : Option ToldFiles) (other : Names)
    → map.get (with_told known path told) other ≡ cond (same_path path other) told (map.get known other)
get-with_told known path None other =
    map.get-remove path_cmp_total known path other ∙ ap (λ b. cond b None (map.get known other)) (path_tie path other)
get-with_told known path (Some files) other =
    map.get-insert path_cmp_total known path files other ∙ ap (λ b. cond b (Some files) (map.get known other)) (path_tie path other)

module _ (format : Format) where
  abbrev told_map : (rows : List Members) → AllByRecursion (SaysCgroup format) rows → map.FinMap path_cmp ToldFiles
  told_map [] all = map.empty
  told_map (row ∷ rows) all = with_told (told_map rows all.1) all.0.path (told_row format row)

  told_over : (b : Bool) (row : Members) (later : Option Members)
      → cond b (told_row format row) (option_and_then (told_row format) later)
      ≡ option_and_then (told_row format) (cond b (Some row) later)
  told_over true row later = refl
  told_over false row later = refl

  told_found : (path : Names) (rows : List Members) (all : AllByRecursion (SaysCgroup format) rows)
      → map.get (told_map rows all) path ≡ option_and_then (told_row format) (find (has_path path) rows)
  told_found path [] all = map.get-empty path_cmp path
  told_found path (row ∷ rows) all =
      let own : has_path path row ≡ same_path all.0.path path =
      ap (λ (o : Option Names). elim o [ None ↦ false | Some said ↦ same_path path said ]) all.0.named ∙ same_path_comm path all.0.path in
      get-with_told (told_map rows all.1) all.0.path (told_row format row) path
      ∙ ap (cond (same_path all.0.path path) (told_row format row)) (told_found path rows all.1)
      ∙ told_over (same_path all.0.path path) row (find (has_path path) rows)
      ∙ ap (λ b. option_and_then (told_row format) (cond b (Some row) (find (has_path path) rows))) (sym own)

  are_told : (tables : List Members) (all : AllByRecursion (SaysCgroup format) tables)
      → AreToldOf format tables (map.entries (told_map tables all))
  are_told tables all = record {
    sorted = is_so (is_sorted path_cmp (map.entries (told_map tables all))) (entries_sorted (told_map tables all));
    each = λ path.
        sym (found_by_path path (map.entries (told_map tables all))) ∙ sym (get-entries (told_map tables all) path)
        ∙ told_found path tables all;
  }

-- ---- the processes

module _ (tables : List Members) where
  abbrev Says : Members → Type 0
  Says row = (earlier : List Members) × SaysProcess tables earlier row

  abbrev live_of : (row : Members) → Says row → ℕ × Process
  live_of row says = (says.1.pid, record { uid = says.1.uid; place = says.1.place })

  module _ (rows : List Members) (all : AllByRecursion Says rows) where
    abbrev lives : List (ℕ × Process)
    lives = pairs_of nat_cmp-IsAntisymmetric pid_said nat_eq unsigned_ties Says live_of (λ row says. says.1.numbered) rows all

    -- the processes that the tables say, and their PIDs
    abbrev live : map.FinMap nat_cmp Process
    live = map.from_entries lives

    abbrev used : set.FinSet nat_cmp
    used = set.from_list (map_list (λ live. live.0) lives)

    live_found : (pid : ℕ) → map.get live pid ≡ map.find nat_cmp pid lives
    live_found pid = get-from_entries nat_cmp_total lives pid

    live_is : (pid : ℕ) (process : Process) → map.get live pid ≡ Some process
        → (row : Members) × (find (has_pid pid) rows ≡ Some row) × IsLive row (pid, process)
    live_is pid process is =
        let gives = pair_found nat_cmp-IsAntisymmetric pid_said nat_eq unsigned_ties Says live_of (λ row says. says.1.numbered)
        pid process rows all (sym (live_found pid) ∙ is) in
        let says = gives.is.1 in (
          gives.row,
          gives.found,
          record {
            pid = says.numbered ∙ sym (ap Some gives.key_is);
            uid = says.owned ∙ ap (λ (p : Process). Some p.uid) gives.value_is;
            place = says.placed ∙ ap (λ (p : Process). Some p.place) gives.value_is;
          },
        )

    are_processes : AreProcesses rows live used
    are_processes = record {
      pids = λ pid.
          ap is_some (live_found pid)
          ∙ pair_there nat_cmp-IsAntisymmetric pid_said nat_eq unsigned_ties Says live_of (λ row says. says.1.numbered) pid rows all;
      processes = live_is;
      used = λ pid.
          contains-from_list nat_cmp_total (map_list (λ live. live.0) lives) pid
          ∙ sym (ap is_some (live_found pid) ∙ is_some-find nat_cmp pid lives);
    }

-- ---- the whole

state_of_document : (document : Members) → document_faults document ≡ [] → (st : State) × IsDocumentOf st document
state_of_document document none =
    let tables : List Members = tables_at (codes "cgroup") document in
    let rows : List Members = tables_at (codes "process") document in
    let parts = no_parts (form_faults document) (present (format_said document) (λ format. said_faults format document)) none in
    let form = in_form document parts.0 in
    let format : Format = form.0 in
    let said = five_none [] _ _ _ _ (rw form.1.format at parts.1) in
    let top = absent_none _ _ said.1 in
    let together : cgroup_faults format (Some top.0) tables ≡ [] =
    ap (λ (set : Option ControllerSet). cgroup_faults format set tables) (sym top.1) ∙ said.3 in
    let cgroups_say = none_say (λ _. row_faults format) AtCgroup (SaysCgroup format) (λ _. row_says format) tables said.2 in
    let lives_say = none_say (process_faults tables) AtProcess (Says tables)
    (λ earlier at row none. (earlier, process_says tables earlier at row none)) rows said.4 in
    let made : List (Names × Cgroup) = entries format tables cgroups_say in
    let known : List (Names × ToldFiles) = map.entries (told_map format tables cgroups_say) in
    let living = live tables rows lives_say in
    let pids = used tables rows lives_say in (
      state_with (map.from_sorted made) (map.from_sorted known) living pids top.0,
      document_is_of format document top.0 made (ap first said.2) (ap first together, are_entries format tables cgroups_say)
          known (are_told format tables cgroups_say) living pids (ap first said.4, are_processes tables rows lives_say)
          (map.from_sorted made) refl (map.from_sorted known) refl form.1 top.1,
    )

pub state_of_text : (bytes : List ℕ) → text_faults bytes ≡ [] → (st : State) × IsTextOf st bytes
state_of_text bytes none =
    let parts = five_none [] [] _ _ _ none in
    let parsed = absent_none _ _ parts.3 in
    let made = state_of_document parsed.0 (rw parsed.1 at parts.4) in (
      made.0,
      record {
        short = leb-true (length bytes) (longest_text bytes) (no_unless _ _ parts.2);
        document = parsed.0;
        parsed = parsed.1;
        says = made.1;
      },
    )
