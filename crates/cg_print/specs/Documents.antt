-- The document that is written of a tree: format 2 or 4, with every key, and in format 4 the further limit files that are told of. Own.
use Rattle.std.specs.Prelude.{ℕ, ◌==◌, pos, false, ◌&&◌, List, [], ◌∷◌, map as map_list, fold, codes, Option, Some, None}
use Rattle.std.specs.Option.{option_map}
use Rattle.std.specs.List.{filter, slice_split}
use Rattle.std.specs.FinMap as map
use Rattle.toml.specs.Data.{Data, string, integer, array, table, Members, no_members}
use Rattle.toml.specs.Text.{IsDocumentText}
use Rattle.toml.specs.View.{items_of}
use Rattle.cg_cgroup.specs.Paths.{Names, path_text}
use Rattle.cg_cgroup.specs.Texts as texts
use Rattle.cg_cgroup.specs.Files.{all_controllers, controller_name, enables, is_known, all_files, file_name, all_others, other_name}
use Rattle.cg_cgroup.specs.Cgroups.{file_of}
use Rattle.cg_cgroup.specs.Told.{told_in}
use Rattle.cg_cgroup.specs.declared.user.Entry.{Entry}
use Rattle.cg_cgroup.specs.declared.files.Limit.{Limit}
use Rattle.cg_cgroup.specs.declared.files.Limit.TheVariants.{Max, At}
use Rattle.cg_cgroup.specs.declared.controllers.ControllerSet.{ControllerSet}
use Rattle.cg_cgroup.specs.declared.files.Vocabulary.{Vocabulary}
use Rattle.cg_cgroup.specs.declared.files.Vocabulary.TheVariants.{Format2, Format4}
use Rattle.cg_cgroup.specs.declared.files.LimitFile.{LimitFile}
use Rattle.cg_cgroup.specs.declared.other_file.OtherFile.{OtherFile}
use Rattle.cg_cgroup.specs.declared.told.FileText.{FileText}
use Rattle.cg_cgroup.specs.declared.told.ToldFile.{ToldFile}
use Rattle.cg_cgroup.specs.declared.told.ToldFiles.{ToldFiles}
use Rattle.cg_cgroup.specs.declared.cgroup.LimitEntry.{LimitEntry}
use Rattle.cg_cgroup.specs.declared.cgroup.Cgroup.{Cgroup}
use Rattle.cg_cgroup.specs.declared.process.Process.{Process}
use Rattle.cg_model.specs.States.{State}
use Rattle.cg_print.specs.Keys.{with_key, with_optional}

abbrev pub number : ℕ → Data
number n = integer (pos n)

-- the names of the controllers of a set that the vocabulary has, in their order
abbrev pub names_in : Vocabulary → ControllerSet → List (List ℕ)
names_in vocabulary set =
    map_list controller_name (filter (λ controller. is_known vocabulary controller && enables set controller) all_controllers)

abbrev pub texts_array : List (List ℕ) → Data
texts_array texts = array (items_of (map_list string texts))

-- ---- one cgroup

unfoldable pub entry_table : Entry → Members
entry_table entry = with_key (codes "mode") (number entry.mode) (with_key (codes "gid") (number entry.gid) (with_key (codes "uid") (number entry.uid) no_members))

abbrev pub value_written : Limit → Data
value_written Max = string (codes "max")
value_written (At n) = number n

unfoldable pub limit_table : LimitEntry → Members
limit_table held = with_key (codes "value") (value_written held.value) (entry_table held.entry)

-- what is written of a limit file, where it stands
abbrev pub table_of_file : Option LimitEntry → Option Data
table_of_file found = option_map (λ held. table (limit_table held)) found

abbrev pub with_file : Cgroup → Members → LimitFile → Members
with_file row keys file = with_optional (file_name file) (table_of_file (file_of row file)) keys

-- the two control files, and those of the eight limit files that stand
unfoldable pub limits_table : Cgroup → Members
limits_table row =
    fold (with_file row)
    (with_key texts.cgroup_subtree_control (table (entry_table row.subtree_control)) (with_key texts.cgroup_procs (table (entry_table row.procs)) no_members)) all_files

-- one line is a text, and several are an array
abbrev pub lines_written : List (List ℕ) → Data
lines_written (line ∷ []) = string line
lines_written lines = texts_array lines

-- the value of a further limit file, line by line
abbrev pub text_written : FileText → Data
text_written text = lines_written (slice_split (λ b. b == 10) text)

-- the value stands there only where one is told
unfoldable pub told_table : ToldFile → Members
told_table told = with_optional (codes "value") (option_map text_written told.value) (entry_table told.entry)

-- what is written of a further limit file, where something is told of it
abbrev pub table_of_told : Option ToldFile → Option Data
table_of_told found = option_map (λ told. table (told_table told)) found

abbrev pub with_told : ToldFiles → Members → OtherFile → Members
with_told files keys file = with_optional (other_name file) (table_of_told (told_in files file)) keys

-- further limit files beside what a table has
abbrev pub with_all_told : Option ToldFiles → Members → Members
with_all_told None keys = keys
with_all_told (Some files) keys = fold (with_told files) keys all_others

unfoldable pub files_table : Cgroup → Option ToldFiles → Members
files_table row told = with_all_told told (limits_table row)

unfoldable pub cgroup_table : Vocabulary → Names → Cgroup → Option ToldFiles → Members
cgroup_table vocabulary path row told =
    with_key (codes "files") (table (files_table row told))
    (with_key (codes "dir") (table (entry_table row.dir))
    (with_key (codes "enabled") (texts_array (names_in vocabulary row.enabled))
    (with_key (codes "path") (string (path_text path)) no_members)))

-- ---- one process

unfoldable pub process_table : ℕ → Process → Members
process_table pid process =
    with_key (codes "at") (string (path_text process.place))
    (with_key (codes "uid") (number process.uid)
    (with_key (codes "pid") (number pid) no_members))

-- ---- the whole

-- what is told of the further limit files of a cgroup; format 2 doesn't name them
abbrev pub told_of : Vocabulary → State → Names → Option ToldFiles
told_of Format2 st path = None
told_of Format4 st path = map.get st.told path

-- the cgroups in the order of their paths
abbrev pub cgroups_written : Vocabulary → State → List Data
cgroups_written vocabulary st = map_list (λ e. table (cgroup_table vocabulary e.0 e.1 (told_of vocabulary st e.0))) (map.entries st.rows)

-- the live processes in the order of their PIDs
abbrev pub processes_written : State → List Data
processes_written st = map_list (λ e. table (process_table e.0 e.1)) (map.entries st.live)

-- the format that is written
abbrev pub format_number : Vocabulary → ℕ
format_number Format2 = 2
format_number Format4 = 4

unfoldable pub tree_document : Vocabulary → State → Members
tree_document vocabulary st =
    with_key (codes "process") (array (items_of (processes_written st)))
    (with_key (codes "cgroup") (array (items_of (cgroups_written vocabulary st)))
    (with_key (codes "controllers") (texts_array (names_in vocabulary st.controllers))
    (with_key (codes "format") (number (format_number vocabulary)) no_members)))

-- the text of a tree's document, as `toml` spells it
abbrev pub IsSpelled : Vocabulary → State → List ℕ → Type 0
IsSpelled vocabulary st text = IsDocumentText false (tree_document vocabulary st) text
