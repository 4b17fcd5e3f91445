-- What a tree text's tables say, each by itself. Nothing is said by what isn't as it has to be. Own.
use Rattle.std.specs.List.{list_any, list_all, join_with_byte}
use Rattle.std.specs.Fmt.{signed_decimal}
use Rattle.std.specs.Option.{option_map}
use Rattle.std.specs.Prelude.{ℕ, ◌&&◌, ◌||◌, not, nat_le, ◌==◌, if◌then◌else◌, ℤ, pos, negsuc, Bool, true, false, cond, List, [], ◌∷◌, length, codes, filter_map, Option, Some, None, is_some, option_and_then, unwrap_or}
use Rattle.cg_cgroup.specs.Options.{◌>>=◌}
use Rattle.cg_cgroup.specs.Paths.{Names, same_name, path_at, same_path}
use Rattle.cg_cgroup.specs.Numbers.{is_pid, is_mode}
use Rattle.cg_cgroup.specs.Users.{has_bit}
use Rattle.cg_cgroup.specs.Values.{is_one_line}
use Rattle.cg_cgroup.specs.Files.{controller_named, is_of, with_controller, no_controllers, default_value, accepts, entry_text, known_others}
use Rattle.cg_cgroup.specs.Told.{told_by}
use Rattle.cg_cgroup.specs.declared.user.Entry.{Entry}
use Rattle.cg_cgroup.specs.declared.files.Limit.{Limit}
use Rattle.cg_cgroup.specs.declared.files.Limit.TheVariants.{Max as NoLimit, At}
use Rattle.cg_cgroup.specs.declared.controllers.ControllerSet.{ControllerSet}
use Rattle.cg_cgroup.specs.declared.files.LimitFile.{LimitFile}
use Rattle.cg_cgroup.specs.declared.files.EntryName.{EntryName}
use Rattle.cg_cgroup.specs.declared.files.EntryName.TheVariants.{Dir, File, Other}
use Rattle.cg_cgroup.specs.declared.other_file.OtherFile.{OtherFile}
use Rattle.cg_cgroup.specs.declared.told.FileText.{FileText}
use Rattle.cg_cgroup.specs.declared.told.ToldFile.{ToldFile}
use Rattle.cg_cgroup.specs.declared.told.ToldFiles.{ToldFiles}
use Rattle.toml.specs.Data.{Data, string, integer, array, Members, no_members, get_member, as_str, as_integer, as_array, as_table}
use Rattle.cg_format.specs.Form.{vocabulary, has_groups, elements}
use Rattle.cg_format.specs.declared.format.Format.{Format}
use Rattle.cg_format.specs.declared.format.Format.TheVariants.{One, Two, Four}

-- ---- numbers and names

-- a number that is written, or what a missing one means
abbrev pub number_or : ℕ → Option ℤ → Option ℕ
number_or missing None = Some missing
number_or missing (Some (pos number)) = Some number
number_or missing (Some (negsuc number)) = None

-- the number where it passes a test
abbrev pub passing : (ℕ → Bool) → Option ℕ → Option ℕ
passing test found = option_and_then (λ number. cond (test number) (Some number) None) found

-- a uid or a gid: 0 to 4294967295, and 0 where it is missing
abbrev pub id_read : Option ℤ → Option ℕ
id_read written = passing (λ number. nat_le number 4294967295) (number_or 0 written)

-- a mode: 0 to 0o777, and in format 1 without the group's write bit 0o020
abbrev pub mode_read : Format → ℕ → Option ℤ → Option ℕ
mode_read format missing written = passing (λ number. is_mode number && (has_groups format || not (has_bit number 16))) (number_or missing written)

abbrev pub pid_read : ℤ → Option ℕ
pid_read written = passing is_pid (number_or 0 (Some written))

abbrev pub accepted : LimitFile → Limit → Option Limit
accepted file value = cond (accepts file value) (Some value) None

-- the controllers that texts name, beside those of a set
abbrev pub controllers_from : ControllerSet → List (List ℕ) → Option ControllerSet
controllers_from controllers [] = Some controllers
controllers_from controllers (text ∷ texts) = option_and_then (λ controller. controllers_from (with_controller controllers controller true) texts) (controller_named text)

abbrev pub controllers_read : List (List ℕ) → Option ControllerSet
controllers_read texts = controllers_from no_controllers texts

-- 1, 2 and 4
abbrev pub format_of : ℤ → Option Format
format_of (pos number) = if number == 1 then Some One else (if number == 2 then Some Two else (if number == 4 then Some Four else None))
format_of (negsuc number) = None

-- ---- what stands at a key, where it is of this type

abbrev pub text_at : List ℕ → Members → Option (List ℕ)
text_at key members = option_and_then as_str (get_member key members)

abbrev pub integer_at : List ℕ → Members → Option ℤ
integer_at key members = option_and_then as_integer (get_member key members)

abbrev pub table_at : List ℕ → Members → Option Members
table_at key members = option_and_then as_table (get_member key members)

-- the elements of an array, and none where it is left out
abbrev pub elements_at : List ℕ → Members → List Data
elements_at key members = elim (option_and_then as_array (get_member key members)) [ None ↦ [] | Some items ↦ elements items ]

abbrev pub texts_at : List ℕ → Members → List (List ℕ)
texts_at key members = filter_map as_str (elements_at key members)

abbrev pub tables_at : List ℕ → Members → List Members
tables_at key members = filter_map as_table (elements_at key members)

abbrev pub path_said : List ℕ → Members → Option Names
path_said key members = option_and_then path_at (text_at key members)

abbrev pub controllers_said : List ℕ → Members → Option ControllerSet
controllers_said key members = controllers_read (texts_at key members)

-- the controllers of a key, where the format names each of them
abbrev pub known_said : Format → List ℕ → Members → Option ControllerSet
known_said format key members =
    option_and_then (λ set. cond (is_of (vocabulary format) set) (Some set) None) (controllers_said key members)

abbrev pub format_said : Members → Option Format
format_said document = option_and_then format_of (integer_at (codes "format") document)

-- ---- a cgroup

-- the owner, the group and the mode that a table says, each of which it may leave out
abbrev pub owner_said : Format → ℕ → Members → Option Entry
owner_said format missing members = do
  uid ← id_read (integer_at (codes "uid") members)
  gid ← id_read (integer_at (codes "gid") members)
  mode ← mode_read format missing (integer_at (codes "mode") members)
  Some (record { uid = uid; gid = gid; mode = mode })

-- a number from 0 on, or no limit
abbrev pub limit_of : Data → Option Limit
limit_of (integer (pos number)) = Some (At number)
limit_of (string text) = cond (same_name text (codes "max")) (Some NoLimit) None
limit_of held = None

abbrev pub limit_said : LimitFile → Members → Option Limit
limit_said file members = elim (get_member (codes "value") members) [ None ↦ Some (default_value file) | Some held ↦ option_and_then (accepted file) (limit_of held) ]

-- the table of an entry, where there is one: of the directory, or of a file by its name
abbrev pub table_of : EntryName → Members → Option Members
table_of Dir row = table_at (entry_text Dir) row
table_of name row = option_and_then (table_at (entry_text name)) (table_at (codes "files") row)

-- the mode of a directory that says nothing of it, 0o755, and of a file, 0o644
abbrev pub mode_missing : EntryName → ℕ
mode_missing Dir = 493
mode_missing name = 420

-- an entry without a table is as one whose table says nothing
abbrev pub entry_said : Format → Members → EntryName → Option Entry
entry_said format row name = owner_said format (mode_missing name) (unwrap_or (table_of name row) no_members)

abbrev pub value_said : Members → LimitFile → Option Limit
value_said row file = limit_said file (unwrap_or (table_of (File file) row) no_members)

abbrev pub is_named : EntryName → Members → Bool
is_named name row = is_some (table_of name row)

abbrev pub has_path : Names → Members → Bool
has_path path row = elim (path_said (codes "path") row) [ None ↦ false | Some said ↦ same_path path said ]

-- ---- the limit files beyond `LimitFile`

-- one line of a value: printable words with one space between them, 1 to 4095 bytes
abbrev pub is_text_line : List ℕ → Bool
is_text_line line = nat_le (length line) 4095 && is_one_line line

-- lines, one or more, with a newline between two
abbrev pub lines_text : List (List ℕ) → Option FileText
lines_text [] = None
lines_text (line ∷ lines) = cond (list_all is_text_line (line ∷ lines)) (Some (join_with_byte 10 (line ∷ lines))) None

-- the decimal digits of an integer, a line, or several lines
abbrev pub text_of : Data → Option FileText
text_of (integer number) = Some (signed_decimal number)
text_of (string line) = lines_text (line ∷ [])
text_of (array items) = lines_text (filter_map as_str (elements items))
text_of held = None

-- a value that is left out stays as it is
abbrev pub text_said : Members → Option (Option FileText)
text_said members = elim (get_member (codes "value") members) [ None ↦ Some None | Some held ↦ option_map Some (text_of held) ]

-- what the table of such a file says
abbrev pub file_said : Format → Members → Option ToldFile
file_said format members = do
  entry ← owner_said format 420 members
  value ← text_said members
  Some (record { entry = entry; value = value })

-- what a row tells of such a file; nothing where it doesn't name it
abbrev pub told_said : Format → Members → OtherFile → Option ToldFile
told_said format row file = option_and_then (file_said format) (table_of (Other file) row)

-- whether a row names one that its format has
abbrev pub tells : Format → Members → Bool
tells format row = list_any (λ file. is_named (Other file) row) (known_others (vocabulary format))

-- what a row tells of them all
abbrev pub told_row : Format → Members → Option ToldFiles
told_row format row = cond (tells format row) (Some (told_by (told_said format row))) None

-- ---- a process

abbrev pub pid_said : Members → Option ℕ
pid_said row = option_and_then pid_read (integer_at (codes "pid") row)

abbrev pub uid_said : Members → Option ℕ
uid_said row = option_and_then (λ uid. id_read (Some uid)) (integer_at (codes "uid") row)
