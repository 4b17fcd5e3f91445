-- A cgroup's entries and limit files, read and changed by name.
use Rattle.std.specs.Prelude.{ℕ, cond, map, Option, Some, None, unwrap_or, get_or, slice_set}
use Rattle.std.specs.Option.{option_map}
pub use Rattle.cg_cgroup.specs.Users.{entry_made_by}
use Rattle.cg_cgroup.specs.Identity.{Identity}
use Rattle.std.proofs.Common.{◌∙◌, refl}
use Rattle.std.proofs.lemmas.List.{length-set}
use Rattle.cg_cgroup.specs.Files.{brought_by, all_controllers, controller_kind, brought_files, place_of, default_value, enables, stands_under, no_controllers}
use Rattle.cg_cgroup.specs.declared.user.Entry.{Entry}
use Rattle.cg_cgroup.specs.declared.files.Limit.{Limit}
use Rattle.cg_cgroup.specs.declared.files.Controller.{Controller}
use Rattle.cg_cgroup.specs.declared.controllers.ControllerSet.{ControllerSet}
use Rattle.cg_cgroup.specs.declared.files.LimitFile.{LimitFile}
use Rattle.cg_cgroup.specs.declared.files.LimitFile.TheVariants.{MaxDescendants, MaxDepth}
use Rattle.cg_cgroup.specs.declared.files.EntryName.{EntryName}
use Rattle.cg_cgroup.specs.declared.files.EntryName.TheVariants.{Dir, Procs, SubtreeControl, File, Other}
use Rattle.cg_cgroup.specs.declared.other_file.OtherFile.{OtherFile}
use Rattle.cg_cgroup.specs.declared.cgroup.LimitEntry.{LimitEntry}
use Rattle.cg_cgroup.specs.declared.brought.BroughtFiles.{BroughtFiles}
use Rattle.cg_cgroup.specs.declared.others.OtherFiles.{OtherFiles}
use Rattle.cg_cgroup.specs.declared.cgroup.Cgroup.{Cgroup}

-- the files that controllers bring, each by its place, where it stands
abbrev pub held_at : BroughtFiles → ℕ → Option LimitEntry
held_at files place = get_or files.entries place None

abbrev pub holding : ℕ → Option LimitEntry → BroughtFiles → BroughtFiles
holding place held files = record { entries = slice_set files.entries place held; whole = length-set files.entries place held ∙ files.whole }

abbrev pub files_by : (LimitFile → Option LimitEntry) → BroughtFiles
files_by held = record { entries = map held brought_files; whole = refl }

abbrev pub file_of : Cgroup → LimitFile → Option LimitEntry
file_of row MaxDescendants = Some row.max_descendants
file_of row MaxDepth = Some row.max_depth
file_of row file = held_at row.files (place_of file)

-- the entry of the other limit files that a controller brings, where they stand
abbrev pub other_in : Cgroup → Controller → Option Entry
other_in row controller = get_or row.others.entries (controller_kind controller).number None

abbrev pub others_by : (Controller → Option Entry) → OtherFiles
others_by held = record { entries = map held all_controllers; whole = refl }

-- those below a cgroup that enables these, all with the same entry
abbrev pub others_under : ControllerSet → Entry → OtherFiles
others_under enabled entry = others_by (λ controller. cond (enables enabled controller) (Some entry) None)

-- Own: a file of which nothing is said is root's, with mode 0o644.
abbrev pub root_file : Entry
root_file = record { uid = 0; gid = 0; mode = 420 }

-- Own: the entry of a limit file beyond `LimitFile` of which nothing is told, where it is there, is one for all of a controller.
abbrev pub untold_in : Cgroup → OtherFile → Option Entry
untold_in row file = elim (brought_by file) [ None ↦ row.freeze | Some controller ↦ other_in row controller ]

-- the entry of a directory or file, where it is there and nothing else is told of it
abbrev pub entry_in : Cgroup → EntryName → Option Entry
entry_in row Dir = Some row.dir
entry_in row Procs = Some row.procs
entry_in row SubtreeControl = Some row.subtree_control
entry_in row (File file) = option_map (λ f. f.entry) (file_of row file)
entry_in row (Other file) = untold_in row file

-- the value of a limit file, where it stands
abbrev pub value_in : Cgroup → LimitFile → Option Limit
value_in row file = option_map (λ f. f.value) (file_of row file)

-- the row with a limit file changed, where it stands
abbrev pub with_held : ℕ → (LimitEntry → LimitEntry) → BroughtFiles → BroughtFiles
with_held place f files = holding place (option_map f (held_at files place)) files

abbrev pub with_file : LimitFile → (LimitEntry → LimitEntry) → Cgroup → Cgroup
with_file MaxDescendants f row = record row { max_descendants = f row.max_descendants }
with_file MaxDepth f row = record row { max_depth = f row.max_depth }
with_file file f row = record row { files = with_held (place_of file) f row.files }

abbrev pub with_value_of : Limit → LimitEntry → LimitEntry
with_value_of value file = record file { value = value }

abbrev pub with_value_in : LimitFile → Limit → Cgroup → Cgroup
with_value_in file value row = with_file file (with_value_of value) row

abbrev pub with_mode_of : ℕ → Entry → Entry
with_mode_of mode entry = record entry { mode = mode }

abbrev pub with_file_mode_of : ℕ → LimitEntry → LimitEntry
with_file_mode_of mode file = record file { entry = with_mode_of mode file.entry }

abbrev pub with_mode_in : EntryName → ℕ → Cgroup → Cgroup
with_mode_in Dir mode row = record row { dir = with_mode_of mode row.dir }
with_mode_in Procs mode row = record row { procs = with_mode_of mode row.procs }
with_mode_in SubtreeControl mode row = record row { subtree_control = with_mode_of mode row.subtree_control }
with_mode_in (File file) mode row = with_file file (with_file_mode_of mode) row
with_mode_in (Other file) mode row = row

-- Own: a limit file that a user makes is theirs, with mode 0o644.
abbrev pub file_made_by : Identity → LimitFile → LimitEntry
file_made_by user file = record { entry = entry_made_by user 420; value = default_value file }

-- Enabling and Disabling: a controller brings its files to the children of the cgroup that enables it, and takes them away. A file that stays is kept as it is.
abbrev pub refitted : ControllerSet → Identity → LimitFile → Option LimitEntry → Option LimitEntry
refitted enabled user file had = cond (stands_under enabled file) (Some (unwrap_or had (file_made_by user file))) None

-- The same of the other files that a controller brings. Own: so are these a user's, with mode 0o644.
abbrev pub refitted_other : ControllerSet → Identity → Controller → Option Entry → Option Entry
refitted_other enabled user controller had = cond (enables enabled controller) (Some (unwrap_or had (entry_made_by user 420))) None

abbrev pub with_files_of : ControllerSet → Identity → Cgroup → Cgroup
with_files_of enabled user row = record row {
  files = files_by (λ file. refitted enabled user file (file_of row file));
  others = others_by (λ controller. refitted_other enabled user controller (other_in row controller));
}

-- A new cgroup of a user under a parent that enables these. Own: its directory has mode 0o755, its files 0o644.
abbrev pub cgroup_made_by : Identity → ControllerSet → Cgroup
cgroup_made_by user enabled = with_files_of enabled user (record {
  dir = entry_made_by user 493;
  procs = entry_made_by user 420;
  subtree_control = entry_made_by user 420;
  max_descendants = file_made_by user MaxDescendants;
  max_depth = file_made_by user MaxDepth;
  freeze = Some (entry_made_by user 420);
  files = files_by (λ file. None);
  others = others_by (λ controller. None);
  enabled = no_controllers;
})
