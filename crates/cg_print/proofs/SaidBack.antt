-- The tables of a tree's document say what they were written of.
use Rattle.std.proofs.Common.{true≢false, false, ◌≡◌, ℕ, ◌≤◌, pos, true, cond, le-leb, List, [], ◌∷◌, map as map_list, codes, Option, Some, None, is_some, option_map, option_and_then, unwrap_or, refl, sym, ap, ◌∙◌}
use Rattle.std.specs.Prelude.{◌&&◌, filter_map}
use Rattle.toml.specs.Data.{Data, string, Members, no_members, as_str, as_table}
use Rattle.toml.specs.View.{items_of}
use Rattle.cg_cgroup.specs.Options.{◌>>=◌}
use Rattle.cg_cgroup.specs.Paths.{Names, IsPath}
use Rattle.cg_cgroup.specs.Files.{is_beyond, accepts, is_of}
use Rattle.cg_cgroup.specs.Cgroups.{file_of, entry_in}
use Rattle.cg_cgroup.specs.declared.user.Entry.{Entry}
use Rattle.cg_cgroup.specs.declared.files.Limit.{Limit}
use Rattle.cg_cgroup.specs.declared.files.Limit.TheVariants.{Max, At}
use Rattle.cg_cgroup.specs.declared.controllers.ControllerSet.{ControllerSet}
use Rattle.cg_cgroup.specs.declared.files.LimitFile.{LimitFile}
use Rattle.cg_cgroup.specs.declared.files.Vocabulary.{Vocabulary}
use Rattle.cg_cgroup.specs.declared.files.Vocabulary.TheVariants.{Format2, Format4}
use Rattle.cg_cgroup.specs.declared.files.EntryName.{EntryName}
use Rattle.cg_cgroup.specs.declared.files.EntryName.TheVariants.{Dir, Procs, SubtreeControl, File, Other}
use Rattle.cg_cgroup.specs.declared.told.ToldFiles.{ToldFiles}
use Rattle.cg_cgroup.specs.declared.cgroup.LimitEntry.{LimitEntry}
use Rattle.cg_cgroup.specs.declared.cgroup.Cgroup.{Cgroup}
use Rattle.cg_cgroup.specs.declared.process.Process.{Process}
use Rattle.cg_cgroup.proofs.Options.{mapped_from, is_some-mapped}
use Rattle.cg_cgroup.proofs.PathAt.{path_at-text}
use Rattle.cg_model.specs.States.{State}
use Rattle.cg_model.specs.WellFormed.{IsFormedRow}
use Rattle.cg_format.specs.Form.{elements}
use Rattle.cg_format.specs.Form as form
use Rattle.cg_format.specs.Said as said
use Rattle.cg_format.specs.Said.{elements_at, id_read, mode_read, accepted, controllers_read, limit_of, path_said, known_said, format_said, owner_said, limit_said, mode_missing, table_of, entry_said, value_said, is_named, pid_said, uid_said}
use Rattle.cg_format.specs.declared.format.Format.TheVariants.{Two}
use Rattle.cg_print.specs.Keys.{with_key}
use Rattle.cg_print.specs.Documents.{names_in, entry_table, value_written, limit_table, table_of_file, cgroup_table, process_table, cgroups_written, processes_written, format_number, tree_document}
use Rattle.cg_print.specs.Carried.{IsId, HasIds, IsNamedRow, IsNamedProcess, written_in}
use Rattle.cg_print.proofs.ControllersBack.{set_again}
use Rattle.cg_print.proofs.FormBack.{at_procs, at_control, at_file}
use Rattle.cg_print.proofs.TextLines.{texts_again}

-- ---- owners, values and controllers

id_again : (n : ℕ) → IsId n → id_read (Some (pos n)) ≡ Some n
id_again n is = ap (λ b. cond b (Some n) None) (le-leb n 4294967295 is)

mode_again : (missing n : ℕ) → n ≤ 511 → mode_read Two missing (Some (pos n)) ≡ Some n
mode_again missing n is = ap (λ b. cond (b && true) (Some n) None) (le-leb n 511 is)

abbrev pub joined_owner : Option ℕ → Option ℕ → Option ℕ → Option Entry
joined_owner uid gid mode = do
  uid ← uid
  gid ← gid
  mode ← mode
  Some (record { uid = uid; gid = gid; mode = mode })

module _ (missing : ℕ) (entry : Entry) (ids : HasIds entry) (small : entry.mode ≤ 511) where
  pub numbers_again :
      joined_owner (id_read (Some (pos entry.uid))) (id_read (Some (pos entry.gid))) (mode_read Two missing (Some (pos entry.mode)))
      ≡ Some entry
  numbers_again =
      let uid = id_again entry.uid ids.0 in
      let gid = id_again entry.gid ids.1 in
      let mode = mode_again missing entry.mode small in
      λ i. joined_owner (uid i) (gid i) (mode i)

  pub entry_again : owner_said Two missing (entry_table entry) ≡ Some entry
  unfolding entry_table with_key
  entry_again = numbers_again

  limit_entry_again : (value : Limit) → owner_said Two missing (limit_table (record { entry = entry; value = value })) ≡ Some entry
  unfolding limit_table entry_table with_key
  limit_entry_again value = numbers_again

limit_again : (file : LimitFile) (value : Limit) → accepts file value ≡ true
    → option_and_then (accepted file) (limit_of (value_written value)) ≡ Some value
limit_again file Max is = ap (λ b. cond b (Some Max) None) is
limit_again file (At n) is = ap (λ b. cond b (Some (At n)) None) is

value_again : (file : LimitFile) (held : LimitEntry) → accepts file held.value ≡ true → limit_said file (limit_table held) ≡ Some held.value
unfolding limit_table entry_table with_key
value_again file held is = limit_again file held.value is

vocabulary_written : (vocabulary : Vocabulary) → form.vocabulary (written_in vocabulary) ≡ vocabulary
vocabulary_written Format2 = refl
vocabulary_written Format4 = refl

controllers_again : (vocabulary : Vocabulary) (set : ControllerSet) → is_of vocabulary set ≡ true
    → option_and_then (λ one. cond (is_of (form.vocabulary (written_in vocabulary)) one) (Some one) None)
    (controllers_read (filter_map as_str (elements (items_of (map_list string (names_in vocabulary set)))))) ≡ Some set
controllers_again vocabulary set known =
    let read = ap controllers_read (texts_again (names_in vocabulary set)) ∙ set_again vocabulary set known in
    ap (option_and_then (λ one. cond (is_of (form.vocabulary (written_in vocabulary)) one) (Some one) None)) read
    ∙ (λ i. cond (is_of (vocabulary_written vocabulary i) set) (Some set) None) ∙ ap (λ b. cond b (Some set) None) known

-- ---- the entries of a cgroup

-- the table of an entry
abbrev table_written : Cgroup → EntryName → Option Members
table_written row Dir = Some (entry_table row.dir)
table_written row Procs = Some (entry_table row.procs)
table_written row SubtreeControl = Some (entry_table row.subtree_control)
table_written row (File file) = option_map limit_table (file_of row file)
table_written row (Other file) = None

of_file : (found : Option LimitEntry) → option_and_then as_table (table_of_file found) ≡ option_map limit_table found
of_file None = refl
of_file (Some held) = refl

table_again : (vocabulary : Vocabulary) (path : Names) (row : Cgroup) (told : Option ToldFiles) (name : EntryName) → is_beyond name ≡ false
    → table_of name (cgroup_table vocabulary path row told) ≡ table_written row name
unfolding cgroup_table with_key
table_again vocabulary path row told Dir within = refl
table_again vocabulary path row told Procs within = ap (option_and_then as_table) (at_procs row told)
table_again vocabulary path row told SubtreeControl within = ap (option_and_then as_table) (at_control row told)
table_again vocabulary path row told (Other file) within = absurd (true≢false within)
table_again vocabulary path row told (File file) within = ap (option_and_then as_table) (at_file row told file) ∙ of_file (file_of row file)

named_again : (row : Cgroup) (name : EntryName) → is_beyond name ≡ false → is_some (table_written row name) ≡ is_some (entry_in row name)
named_again row Dir within = refl
named_again row Procs within = refl
named_again row SubtreeControl within = refl
named_again row (Other file) within = absurd (true≢false within)
named_again row (File file) within =
    is_some-mapped limit_table (file_of row file) ∙ sym (is_some-mapped (λ (f : LimitEntry). f.entry) (file_of row file))

-- ---- a cgroup

pub path_back : (vocabulary : Vocabulary) (path : Names) (row : Cgroup) (told : Option ToldFiles) → IsNamedRow path row told
    → path_said (codes "path") (cgroup_table vocabulary path row told) ≡ Some path
unfolding cgroup_table with_key
path_back vocabulary path row told at = path_at-text path at.path

pub enabled_back : (vocabulary : Vocabulary) (path : Names) (row : Cgroup) (told : Option ToldFiles) → is_of vocabulary row.enabled ≡ true
    → known_said (written_in vocabulary) (codes "enabled") (cgroup_table vocabulary path row told) ≡ Some row.enabled
unfolding cgroup_table with_key
enabled_back vocabulary path row told known = controllers_again vocabulary row.enabled known

-- what a table says of an entry is the same in format 4 as in format 2
said_written : (vocabulary : Vocabulary) (table : Members) (name : EntryName) → entry_said (written_in vocabulary) table name
    ≡ entry_said Two table name
said_written Format2 table name = refl
said_written Format4 table name = refl

module _ (vocabulary : Vocabulary) (path : Names) (row : Cgroup) (told : Option ToldFiles) (above : ControllerSet)
    (at : IsNamedRow path row told)
    (formed : IsFormedRow above row) where
  owner_again : (name : EntryName) (entry : Entry) → is_beyond name ≡ false → entry_in row name ≡ Some entry
      → owner_said Two (mode_missing name) (entry_table entry) ≡ Some entry
  owner_again name entry within is = entry_again (mode_missing name) entry (at.ids name entry within is) (formed.modes name entry is)

  written_again : (name : EntryName) (entry : Entry) → is_beyond name ≡ false → entry_in row name ≡ Some entry
      → owner_said Two (mode_missing name) (unwrap_or (table_written row name) no_members) ≡ Some entry
  written_again Dir entry within is = owner_again Dir row.dir refl refl ∙ is
  written_again Procs entry within is = owner_again Procs row.procs refl refl ∙ is
  written_again SubtreeControl entry within is = owner_again SubtreeControl row.subtree_control refl refl ∙ is
  written_again (Other file) entry within is = absurd (true≢false within)
  written_again (File file) entry within is =
      let held = mapped_from (λ (f : LimitEntry). f.entry) (file_of row file) entry is in
      let owner : Entry = held.0.entry in
      let there = ap (option_map (λ (f : LimitEntry). f.entry)) held.1 in
      ap (λ found. owner_said Two 420 (unwrap_or (option_map limit_table found) no_members)) held.1
      ∙ limit_entry_again 420 owner (at.ids (File file) owner refl there) (formed.modes (File file) owner there) held.0.value
      ∙ ap Some held.2

  pub entry_back : (name : EntryName) (entry : Entry) → is_beyond name ≡ false → entry_in row name ≡ Some entry
      → entry_said (written_in vocabulary) (cgroup_table vocabulary path row told) name ≡ Some entry
  entry_back name entry within is =
      said_written vocabulary (cgroup_table vocabulary path row told) name
      ∙ ap (λ found. owner_said Two (mode_missing name) (unwrap_or found no_members)) (table_again vocabulary path row told name within)
      ∙ written_again name entry within is

  pub value_back : (file : LimitFile) (held : LimitEntry) → file_of row file ≡ Some held
      → value_said (cgroup_table vocabulary path row told) file ≡ Some held.value
  value_back file held is =
      ap (λ found. limit_said file (unwrap_or found no_members)) (table_again vocabulary path row told (File file) refl
      ∙ ap (option_map limit_table) is)
      ∙ value_again file held (formed.values file held is)

  pub files_back : (name : EntryName) → is_beyond name ≡ false → is_named name (cgroup_table vocabulary path row told) ≡ true
      → is_some (entry_in row name) ≡ true
  files_back name within is = sym (ap is_some (table_again vocabulary path row told name within) ∙ named_again row name within) ∙ is

-- ---- a process

module _ (pid : ℕ) (process : Process) (at : IsNamedProcess pid process) where
  pub pid_back : pid_said (process_table pid process) ≡ Some pid
  unfolding process_table with_key
  pid_back = ap (λ b. cond b (Some pid) None) at.pid

  pub uid_back : uid_said (process_table pid process) ≡ Some process.uid
  unfolding process_table with_key
  uid_back = id_again process.uid at.uid

  pub place_back : IsPath process.place → path_said (codes "at") (process_table pid process) ≡ Some process.place
  unfolding process_table with_key
  place_back is = path_at-text process.place is

-- ---- the top table

elements_again : (values : List Data) → elements (items_of values) ≡ values
elements_again [] = refl
elements_again (value ∷ values) = ap (λ rest. value ∷ rest) (elements_again values)

number_back : (vocabulary : Vocabulary) → said.format_of (pos (format_number vocabulary)) ≡ Some (written_in vocabulary)
number_back Format2 = refl
number_back Format4 = refl

module _ (vocabulary : Vocabulary) (st : State) where
  pub format_back : format_said (tree_document vocabulary st) ≡ Some (written_in vocabulary)
  unfolding tree_document with_key
  format_back = number_back vocabulary

  pub controllers_back : is_of vocabulary st.controllers ≡ true
      → known_said (written_in vocabulary) (codes "controllers") (tree_document vocabulary st) ≡ Some st.controllers
  unfolding tree_document with_key
  controllers_back known = controllers_again vocabulary st.controllers known

  pub cgroups_back : elements_at (codes "cgroup") (tree_document vocabulary st) ≡ cgroups_written vocabulary st
  unfolding tree_document with_key
  cgroups_back = elements_again (cgroups_written vocabulary st)

  pub processes_back : elements_at (codes "process") (tree_document vocabulary st) ≡ processes_written st
  unfolding tree_document with_key
  processes_back = elements_again (processes_written st)
