-- Which state a tree text is of, said of the state and of the document's tables. Own.
use Rattle.std.specs.Prelude.{◌≡◌, ℕ, ◌≤◌, Bool, true, false, cond, List, length, count_by, codes, Some, None, is_some, nat_eq}
use Rattle.std.specs.List.{AllByRecursion, list_all}
use Rattle.std.specs.FinMap as map
use Rattle.toml.specs.Data.{Members, table}
use Rattle.cg_cgroup.specs.Paths.{Names}
use Rattle.cg_cgroup.specs.Files.{is_beyond}
use Rattle.cg_cgroup.specs.Cgroups.{file_of, other_in, entry_in, root_file}
use Rattle.cg_cgroup.specs.declared.user.Entry.{Entry}
use Rattle.cg_cgroup.specs.declared.files.Controller.{Controller}
use Rattle.cg_cgroup.specs.declared.files.LimitFile.{LimitFile}
use Rattle.cg_cgroup.specs.declared.files.EntryName.{EntryName}
use Rattle.cg_cgroup.specs.declared.files.EntryName.TheVariants.{Other}
use Rattle.cg_cgroup.specs.declared.other_file.OtherFile.{OtherFile}
use Rattle.cg_cgroup.specs.declared.cgroup.LimitEntry.{LimitEntry}
use Rattle.cg_cgroup.specs.declared.cgroup.Cgroup.{Cgroup}
use Rattle.cg_cgroup.specs.declared.process.Process.{Process}
use Rattle.cg_model.specs.States.{State, row_at, process_at, is_used}
use Rattle.cg_model.specs.WellFormed.{has_row, IsWellFormed}
use Rattle.cg_format.specs.Form.{most_rows, document_keys, row_keys, live_keys, is_table}
use Rattle.cg_format.specs.Said.{elements_at, tables_at, path_said, known_said, format_said, entry_said, value_said, is_named, told_said, told_row, has_path, pid_said, uid_said}
use Rattle.cg_format.specs.TreeTexts.{longest_text, document_of}
use Rattle.cg_format.specs.declared.format.Format.{Format}

-- The document has the keys and the types of its format, and not too many rows.
pub record IsInForm (kind : Format) (document : Members) : Type 0 where
  pub top : is_table document_keys (table document) ≡ true
  pub format : format_said document ≡ Some kind
  pub few_cgroups : length (elements_at (codes "cgroup") document) ≤ most_rows kind
  pub few_processes : length (elements_at (codes "process") document) ≤ most_rows kind
  pub cgroups : list_all (is_table (row_keys kind)) (elements_at (codes "cgroup") document) ≡ true
  pub processes : list_all (is_table live_keys) (elements_at (codes "process") document) ≡ true

-- The limit files beyond `LimitFile` of which a text tells nothing are root's, with mode 0o644.
pub record OthersAreRoots (cgroup : Cgroup) : Type 0 where
  pub freeze : (entry : Entry) → cgroup.freeze ≡ Some entry → entry ≡ root_file
  pub others : (controller : Controller) (entry : Entry) → other_in cgroup controller ≡ Some entry → entry ≡ root_file

-- A cgroup of the state is as the table says, and has each file that the table names; it is told of the files beyond `LimitFile` what the table tells.
pub record IsRowOf (format : Format) (st : State) (row : Members) : Type 0 where
  pub path : Names
  pub cgroup : Cgroup
  pub there : row_at st path ≡ Some cgroup
  pub named : path_said (codes "path") row ≡ Some path
  pub enabled : known_said format (codes "enabled") row ≡ Some cgroup.enabled
  pub entries : (name : EntryName) (entry : Entry) → is_beyond name ≡ false → entry_in cgroup name ≡ Some entry
      → entry_said format row name ≡ Some entry
  pub values : (file : LimitFile) (held : LimitEntry) → file_of cgroup file ≡ Some held → value_said row file ≡ Some held.value
  pub files : (name : EntryName) → is_beyond name ≡ false → is_named name row ≡ true → is_some (entry_in cgroup name) ≡ true
  pub others : OthersAreRoots cgroup
  pub told : map.get st.told path ≡ told_row format row
  pub told_values : (file : OtherFile) → is_named (Other file) row ≡ true → is_some (told_said format row file) ≡ true

-- A live process of the state is as the table says.
pub record IsProcessOf (st : State) (row : Members) : Type 0 where
  pub pid : ℕ
  pub process : Process
  pub there : process_at st pid ≡ Some process
  pub named : pid_said row ≡ Some pid
  pub owner : uid_said row ≡ Some process.uid
  pub place : path_said (codes "at") row ≡ Some process.place

abbrev pub has_pid : ℕ → Members → Bool
has_pid pid row = elim (pid_said row) [ None ↦ false | Some said ↦ nat_eq pid said ]

-- The state is well-formed. Its cgroups are those of the tables, one for each, and so are its processes, whose PIDs are the used ones.
pub record IsDocumentOf (st : State) (document : Members) : Type 0 where
  pub format : Format
  pub form : IsInForm format document
  pub controllers : known_said format (codes "controllers") document ≡ Some st.controllers
  pub cgroups : AllByRecursion (IsRowOf format st) (tables_at (codes "cgroup") document)
  pub paths : (path : Names) → count_by (has_path path) (tables_at (codes "cgroup") document) ≡ cond (has_row st path) 1 0
  pub processes : AllByRecursion (IsProcessOf st) (tables_at (codes "process") document)
  pub pids : (pid : ℕ) → count_by (has_pid pid) (tables_at (codes "process") document) ≡ cond (is_some (process_at st pid)) 1 0
  pub used : (pid : ℕ) → is_used st pid ≡ is_some (process_at st pid)
  pub formed : IsWellFormed st

-- A text that isn't too long, whose document is one of the state.
pub record IsTextOf (st : State) (bytes : List ℕ) : Type 0 where
  pub short : length bytes ≤ longest_text bytes
  pub document : Members
  pub parsed : document_of bytes ≡ Some document
  pub says : IsDocumentOf st document
