-- How it is read and written: nobody has to believe it.
-- The reader's row of a cgroup, held against what the cgroup's table says.
use Rattle.std.specs.Prelude.{◌≡◌, ℕ, ◌+◌, Bool, true, false, ◌&&◌, ◌||◌, not, cond, List, [], ◌∷◌, ◌++◌, String, codes, Option, Some, None, is_some, unwrap_or, option_and_then}
use Rattle.std.specs.Option.{option_map}
use Rattle.std.specs.List.{list_all, list_any}
use Rattle.std.specs.Borrow.{Bor}
use Rattle.std.specs.BTreeMap.{BTreeMap}
use Rattle.std.specs.declared.alloc.Global.{Global}
use Rattle.toml.specs.Data.{Members, no_members, member}
use Rattle.toml.specs.View.{table_view}
use Rattle.toml.specs.declared.value.Value.{Value}
use Rattle.cg_cgroup.specs.Files.{all_files, format_2_entries, entry_text, is_beyond, controller_of, same_controller, set_by, known_others, entry_known_as}
use Rattle.cg_cgroup.specs.Cgroups.{file_of, entry_in, value_in as value_at}
use Rattle.cg_cgroup.specs.declared.user.Entry.{Entry}
use Rattle.cg_cgroup.specs.declared.files.Limit.{Limit}
use Rattle.cg_cgroup.specs.declared.files.Controller.{Controller}
use Rattle.cg_cgroup.specs.declared.controllers.ControllerSet.{ControllerSet}
use Rattle.cg_cgroup.specs.declared.files.LimitFile.{LimitFile}
use Rattle.cg_cgroup.specs.declared.files.EntryName.{EntryName}
use Rattle.cg_cgroup.specs.declared.files.EntryName.TheVariants.{Dir, File, Other}
use Rattle.cg_cgroup.specs.declared.files.Vocabulary.TheVariants.{Format2}
use Rattle.cg_cgroup.specs.declared.other_file.OtherFile.{OtherFile}
use Rattle.cg_cgroup.specs.declared.told.ToldFile.{ToldFile}
use Rattle.cg_cgroup.specs.declared.told.ToldFiles.{ToldFiles}
use Rattle.cg_cgroup.specs.Told.{told_by, telling}
use Rattle.cg_cgroup.specs.declared.cgroup.LimitEntry.{LimitEntry}
use Rattle.cg_cgroup.specs.declared.cgroup.Cgroup.{Cgroup}
use Rattle.cg_model.specs.Clauses.{unless}
use Rattle.cg_format.specs.Form.{vocabulary}
use Rattle.cg_format.specs.Said.{table_at, path_said, known_said, owner_said, limit_said, mode_missing, entry_said, value_said, is_named, text_said, file_said, told_row}
use Rattle.cg_format.specs.Tables.{freeze_at}
use Rattle.cg_format.specs.declared.format.Format.{Format}
use Rattle.cg_format.specs.declared.fault.TreeFault.{TreeFault}
use Rattle.cg_format.specs.declared.fault.TreeFault.TheVariants.{BadEntry, BadValue}
use Rattle.cg_text.specs.declared.tree.row.Entries.{Entries}
use Rattle.cg_text.specs.declared.tree.row.Row.{Row}

-- the members of a table that may be left out
abbrev pub written : Option (Bor (BTreeMap (String Global) Value)) → Members
written table = elim table [ None ↦ no_members | Some held ↦ table_view held.now ]

-- the table of an entry
abbrev pub table_in : Entries → EntryName → Option Members
table_in entries Dir = option_map (λ table. table_view table.now) entries.dir
table_in entries name = option_and_then (table_at (entry_text name)) (option_map (λ table. table_view table.now) entries.files)

abbrev pub owner_in : Entries → EntryName → Option Entry
owner_in entries name = owner_said entries.format (mode_missing name) (unwrap_or (table_in entries name) no_members)

abbrev pub limit_in : Entries → LimitFile → Option Limit
limit_in entries file = limit_said file (unwrap_or (table_in entries (File file)) no_members)

abbrev pub entry_with : Entry → Limit → LimitEntry
entry_with entry value = record { entry = entry; value = value }

abbrev pub names : Entries → LimitFile → Bool
names entries file = is_some (table_in entries (File file))

-- whether a controller brings a file
abbrev pub is_file_of : Controller → LimitFile → Bool
is_file_of controller file = elim (controller_of file) [ None ↦ false | Some own ↦ same_controller own controller ]

-- whether a file of a controller passes
unfoldable pub needs : (LimitFile → Bool) → Controller → Bool
needs named controller = list_any (λ file. is_file_of controller file && named file) all_files

-- the controllers of which a file passes
abbrev pub needed_where : (LimitFile → Bool) → ControllerSet
needed_where named = set_by (needs named)

-- the controllers whose files are named
abbrev pub needed_by : Entries → ControllerSet
needed_by entries = needed_where (names entries)

-- a limit file, where both its owner and its value are so
abbrev pub file_in : Entries → LimitFile → Option LimitEntry
file_in entries file = option_and_then (λ entry. option_map (entry_with entry) (limit_in entries file)) (owner_in entries (File file))

-- the clauses on entries and values, which are the last of a row's own
abbrev pub entry_faults : Entries → List TreeFault
entry_faults entries =
    unless (list_all (λ name. is_some (owner_in entries name)) format_2_entries) (BadEntry entries.place)
    ++ unless (list_all (λ file. is_some (limit_in entries file)) all_files) (BadValue entries.place)

-- ---- the limit files beyond `LimitFile`

-- a text and a line behind it
abbrev pub line_added : Bool → List ℕ → List ℕ → List ℕ
line_added is_first text line = cond is_first (text ++ line) (text ++ 10 ∷ line)

-- whether a table has a key that is no name of formats 1 and 2
abbrev pub has_beyond : Members → Bool
has_beyond no_members = false
has_beyond (member name held rest) = not (is_some (entry_known_as Format2 name)) || has_beyond rest

-- those that the format names
abbrev pub others_of : Entries → List OtherFile
others_of entries = known_others (vocabulary entries.format)

abbrev pub names_other : Entries → OtherFile → Bool
names_other entries file = is_some (table_in entries (Other file))

abbrev pub is_owned : Entries → OtherFile → Bool
is_owned entries file = is_some (owner_in entries (Other file))

abbrev pub has_text : Entries → OtherFile → Bool
has_text entries file = is_some (text_said (unwrap_or (table_in entries (Other file)) no_members))

-- whether one is named, whether the owner of each is so, and whether the value of each is
abbrev pub tells_in : Entries → Bool
tells_in entries = list_any (names_other entries) (others_of entries)

abbrev pub are_owned_in : Entries → Bool
are_owned_in entries = list_all (is_owned entries) (others_of entries)

abbrev pub have_texts_in : Entries → Bool
have_texts_in entries = list_all (has_text entries) (others_of entries)

-- what is told of one, of these and one more, and of all
abbrev pub told_at : Entries → OtherFile → Option ToldFile
told_at entries file = option_and_then (file_said entries.format) (table_in entries (Other file))

abbrev pub told_with : Option ToldFile → OtherFile → ToldFiles → ToldFiles
told_with None file files = files
told_with (Some told) file files = telling file (Some told) files

abbrev pub told_of : Entries → Option ToldFiles
told_of entries = cond (tells_in entries) (Some (told_by (told_at entries))) None

-- ---- rows

-- a cgroup with all files that controllers bring, as these tables and the defaults say
pub record IsCgroupOf (said : Entries) (controllers : ControllerSet) (given : Option Entry) (cgroup : Cgroup) : Type 0 where
  pub enabled : cgroup.enabled ≡ controllers
  pub entries : (name : EntryName) → is_beyond name ≡ false → entry_in cgroup name ≡ owner_in said name
  pub values : (file : LimitFile) → value_at cgroup file ≡ limit_in said file
  pub files : (file : LimitFile) → is_some (file_of cgroup file) ≡ true
  pub freeze : cgroup.freeze ≡ given

-- a row as a table says it
pub record IsReadAs (format : Format) (i : ℕ) (table : Members) (row : Row) : Type 0 where
  pub number : row.number ≡ i
  pub path : path_said (codes "path") table ≡ Some row.path
  pub enabled : known_said format (codes "enabled") table ≡ Some row.cgroup.enabled
  pub entries : (name : EntryName) → is_beyond name ≡ false → entry_said format table name ≡ entry_in row.cgroup name
  pub values : (file : LimitFile) → value_said table file ≡ value_at row.cgroup file
  pub needed : row.needed ≡ needed_where (λ file. is_named (File file) table)
  pub files : (file : LimitFile) → is_some (file_of row.cgroup file) ≡ true
  pub freeze : row.cgroup.freeze ≡ freeze_at row.path
  pub told : row.told ≡ told_row format table

-- rows as tables say them, the first of which has the number i
abbrev pub AreReadAs : Format → ℕ → List Members → List Row → Type 0
AreReadAs format i [] [] = Unit {0}
AreReadAs format i (table ∷ tables) (row ∷ rows) = IsReadAs format i table row × AreReadAs format (i + 1) tables rows
AreReadAs format i tables rows = ⊥
