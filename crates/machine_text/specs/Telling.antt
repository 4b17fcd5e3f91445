-- Which machine a tree text tells of: this page, behind that of what a yes says of a machine, is what a yes on a text says. A text
-- tells of a machine only where all of it is read: what has another type, or is out of range, tells of none. Own.
use Rattle.std.specs.Prelude.{◌≡◌, ℕ, ◌≤◌, Bool, false, ◌&&◌, not, pos, nat_eq, nat_le, cond, List, [], ◌∷◌, count_by, find, codes, Option, Some, None, option_and_then, slice_get}
use Rattle.std.specs.List.{list_any, join_with_byte}
use Rattle.std.specs.Option.{option_map}
use Rattle.std.specs.Fmt.{signed_decimal}
use Rattle.toml.specs.Data.{Data, string, integer, array, Items, no_items, item, Members, no_members, get_member, as_str, as_table}
use Rattle.cg_cgroup.specs.Options.{◌>>=◌}
use Rattle.cg_cgroup.specs.Paths.{Names, same_name, same_path, is_root, parent, path_text, names_at}
use Rattle.cg_cgroup.specs.Files.{controller_name, default_value, controller_of, brought_by, entry_text, is_beyond}
use Rattle.cg_cgroup.specs.declared.user.Entry.{Entry}
use Rattle.cg_cgroup.specs.declared.files.Controller.{Controller}
use Rattle.cg_cgroup.specs.declared.files.EntryName.{EntryName}
use Rattle.cg_cgroup.specs.declared.files.EntryName.TheVariants.{Dir as DirName, Procs as ProcsName, SubtreeControl, File as FileName, Other}
use Rattle.cg_format.specs.Said.{mode_missing, accepted, limit_of}
use Rattle.cg_format.specs.TreeTexts.{document_of}
use Rattle.machine.specs.Machines.{File, Dir, Procs, Control, Limit, Value, Unknown, Text, Inode, Machine}
use Rattle.machine_view.specs.Views.{limit_names, value_as}

-- ---- what stands at a key

-- read so, and where the key is left out what that means
abbrev pub at_key : {A : Type 0} → Option A → (Data → Option A) → List ℕ → Members → Option A
at_key missing read key members = elim (get_member key members) [ None ↦ missing | Some held ↦ read held ]

abbrev pub number_up_to : ℕ → Data → Option ℕ
number_up_to most (integer (pos number)) = cond (nat_le number most) (Some number) None
number_up_to most held = None

-- each of some elements, read so
abbrev pub each_as : {A : Type 0} → (Data → Option A) → Items → Option (List A)
each_as read no_items = Some []
each_as read (item held rest) = do
  first ← read held
  others ← each_as read rest
  Some (first ∷ others)

abbrev pub array_as : {A : Type 0} → (Data → Option A) → Data → Option (List A)
array_as read (array items) = each_as read items
array_as read held = None

-- The names between the slashes of a text, the first of which begins it.
abbrev pub path_names : List ℕ → Option Names
path_names text = cond (same_name (path_text (names_at text)) text) (Some (names_at text)) None

abbrev pub path_as : Data → Option Names
path_as held = option_and_then path_names (as_str held)

-- ---- an entry

-- Whose it is, root's where that is left out, and with which mode.
abbrev pub owner_as : ℕ → Members → Option Entry
owner_as usual members = do
  uid ← at_key (Some 0) (number_up_to 4294967295) (codes "uid") members
  gid ← at_key (Some 0) (number_up_to 4294967295) (codes "gid") members
  mode ← at_key (Some usual) (number_up_to 511) (codes "mode") members
  Some (record { uid = uid; gid = gid; mode = mode })

-- The eight usual limit files hold a number or `max` that they accept, and where nothing is said what a new one does. The further ones
-- hold text.
abbrev pub usual_value : EntryName → Value
usual_value (FileName file) = value_as (default_value file)
usual_value name = Unknown

abbrev pub value_read : EntryName → Data → Option Value
value_read (FileName file) held = option_map value_as (option_and_then (accepted file) (limit_of held))
value_read (Other file) (integer number) = Some (Text (signed_decimal number))
value_read (Other file) (string text) = Some (Text text)
value_read (Other file) (array lines) = option_map (λ texts. Text (join_with_byte 10 texts)) (each_as as_str lines)
value_read name held = None

-- the table in which an entry's own table is
abbrev pub around : EntryName → Members → Option Members
around DirName row = Some row
around name row = at_key (Some no_members) as_table (codes "files") row

-- what a row says of an entry of its cgroup
abbrev pub inode_said : EntryName → Members → Option Inode
inode_said name row = do
  among ← around name row
  said ← at_key (Some no_members) as_table (entry_text name) among
  entry ← owner_as (mode_missing name) said
  value ← at_key (Some (usual_value name)) (value_read name) (codes "value") said
  Some (record { entry = entry; value = value })

-- ---- cgroups

pub record Row : Type 0 where
  pub path : Names
  pub enabled : List (List ℕ)
  pub said : Members

abbrev pub row_as : Data → Option Row
row_as held = do
  said ← as_table held
  path ← at_key None path_as (codes "path") said
  enabled ← at_key (Some []) (array_as as_str) (codes "enabled") said
  Some (record { path = path; enabled = enabled; said = said })

abbrev pub row_named : List Row → Names → Option Row
row_named rows path = find (λ row. same_path path row.path) rows

-- the controller that controller_for an entry
abbrev pub controller_for : EntryName → Option Controller
controller_for (FileName file) = controller_of file
controller_for (Other file) = brought_by file
controller_for name = None

abbrev pub enables_by_name : Row → Controller → Bool
enables_by_name row controller = list_any (same_name (controller_name controller)) row.enabled

-- Enabling and Disabling: what a controller controller_for stands where the parent enables it.
abbrev pub is_enabled_above : List Row → Names → Controller → Bool
is_enabled_above rows path controller =
    not (is_root path) && elim (row_named rows (parent path)) [ None ↦ false | Some above ↦ enables_by_name above controller ]

-- Core Interface Files: cgroup.freeze stands everywhere but at the root, and all else that no controller controller_for everywhere.
abbrev pub stands : List Row → Names → EntryName → Bool
stands rows path name =
    elim (controller_for name) [ None ↦ not (is_beyond name && is_root path) | Some controller ↦ is_enabled_above rows path controller ]

-- The outer Option is whether it can be read, and the inner whether the file is there.
abbrev pub inode_told : List Row → Names → EntryName → Option (Option Inode)
inode_told rows path name = elim (row_named rows path) [
  | None ↦ Some None
  | Some row ↦ cond (stands rows path name) (option_map Some (inode_said name row.said)) (Some None)
]

abbrev pub entry_of_file : File → Option EntryName
entry_of_file Dir = Some DirName
entry_of_file Procs = Some ProcsName
entry_of_file Control = Some SubtreeControl
entry_of_file (Limit place) = slice_get limit_names place

abbrev pub file_said_at : List Row → Names → File → Option (Option Inode)
file_said_at rows path file = elim (entry_of_file file) [ None ↦ Some None | Some name ↦ inode_told rows path name ]

-- ---- processes

pub record Live : Type 0 where
  pub pid : ℕ
  pub place : Names

abbrev pub live_as : Data → Option Live
live_as held = do
  said ← as_table held
  pid ← at_key None (number_up_to 4194303) (codes "pid") said
  place ← at_key None path_as (codes "at") said
  Some (record { pid = pid; place = place })

-- ---- a text

-- The text is a TOML document. The machine's cgroups are those of its rows, each of which names another, with the files that stand,
-- as they are said; and so are its processes.
pub record TextTells (text : List ℕ) (machine : Machine) : Type 0 where
  pub document : Members
  pub parsed : document_of text ≡ Some document
  pub rows : List Row
  pub cgroups : at_key (Some []) (array_as row_as) (codes "cgroup") document ≡ Some rows
  pub named_once : (path : Names) → count_by (λ row. same_path path row.path) rows ≤ 1
  pub paths : (path : Names) → count_by (same_path path) machine.paths ≡ count_by (λ row. same_path path row.path) rows
  pub files : (path : Names) (file : File) → file_said_at rows path file ≡ Some (machine.inode path file)
  pub lives : List Live
  pub processes : at_key (Some []) (array_as live_as) (codes "process") document ≡ Some lives
  pub live_once : (pid : ℕ) → count_by (λ live. nat_eq pid live.pid) lives ≤ 1
  pub places : (pid : ℕ) → machine.cgroup pid ≡ option_map (λ live. live.place) (find (λ live. nat_eq pid live.pid) lives)
