-- How it is read and written: nobody has to believe it.
-- Cgroups and processes, held against what the tables of a document say.
use Rattle.std.specs.Prelude.{◌≡◌, ℕ, true, false, not, cond, List, codes, Option, Some, None, is_some, option_and_then, find}
use Rattle.std.specs.Option.{option_map}
use Rattle.std.specs.List.{list_any}
use Rattle.std.specs.Map.{lookup}
use Rattle.std.specs.Ordering.{nat_cmp}
use Rattle.std.specs.FinMap as map
use Rattle.std.specs.FinMap.{is_sorted}
use Rattle.std.specs.FinSet as set
use Rattle.toml.specs.Data.{Members}
use Rattle.cg_cgroup.specs.Paths.{Names, path_cmp, same_path, is_root}
use Rattle.cg_cgroup.specs.Files.{enables, no_controllers, stands_under, is_beyond}
use Rattle.cg_cgroup.specs.Cgroups.{file_of, other_in, entry_in, root_file}
use Rattle.cg_cgroup.specs.declared.user.Entry.{Entry}
use Rattle.cg_cgroup.specs.declared.controllers.ControllerSet.{ControllerSet}
use Rattle.cg_cgroup.specs.declared.files.EntryName.{EntryName}
use Rattle.cg_cgroup.specs.declared.files.Controller.{Controller}
use Rattle.cg_cgroup.specs.declared.files.LimitFile.{LimitFile}
use Rattle.cg_cgroup.specs.declared.cgroup.LimitEntry.{LimitEntry}
use Rattle.cg_cgroup.specs.declared.cgroup.Cgroup.{Cgroup}
use Rattle.cg_cgroup.specs.declared.told.ToldFiles.{ToldFiles}
use Rattle.cg_cgroup.specs.declared.process.Process.{Process}
use Rattle.cg_format.specs.Said.{path_said, known_said, entry_said, value_said, told_row, has_path, pid_said, uid_said}
use Rattle.cg_format.specs.TextOf.{OthersAreRoots, has_pid}
use Rattle.cg_format.specs.TextFaults.{is_there, enabled_there, over}
use Rattle.cg_format.specs.declared.format.Format.{Format}

-- ---- cgroups

-- `cgroup.freeze` of the cgroup at a path: root's, and none at the root
abbrev pub freeze_at : Names → Option Entry
freeze_at path = cond (is_root path) None (Some root_file)

-- a cgroup as a table says it, with the files that stand at it
pub record IsEntryOf (format : Format) (tables : List Members) (table : Members) (cgroup : Cgroup) : Type 0 where
  pub enabled : known_said format (codes "enabled") table ≡ Some cgroup.enabled
  pub entries : (name : EntryName) (entry : Entry) → is_beyond name ≡ false → entry_in cgroup name ≡ Some entry
      → entry_said format table name ≡ Some entry
  pub values : (file : LimitFile) (held : LimitEntry) → file_of cgroup file ≡ Some held → value_said table file ≡ Some held.value
  pub files : (path : Names) (above : ControllerSet) → path_said (codes "path") table ≡ Some path → over (Some no_controllers) tables path ≡ Some above
      → (file : LimitFile) → is_some (file_of cgroup file) ≡ stands_under above file
  pub others : (path : Names) (above : ControllerSet) → path_said (codes "path") table ≡ Some path → over (Some no_controllers) tables path ≡ Some above
      → (controller : Controller) → is_some (other_in cgroup controller) ≡ enables above controller
  pub freeze : (path : Names) → path_said (codes "path") table ≡ Some path → is_some cgroup.freeze ≡ not (is_root path)
  pub roots : OthersAreRoots cgroup

-- the entries rise by their paths, and are those of the tables
pub record AreEntriesOf (format : Format) (tables : List Members) (entries : List (Names × Cgroup)) : Type 0 where
  pub sorted : is_sorted path_cmp entries ≡ true
  pub there : (path : Names) → is_some (lookup (same_path path) entries) ≡ is_there tables path
  pub each : (path : Names) (cgroup : Cgroup) (table : Members) → lookup (same_path path) entries ≡ Some cgroup → find (has_path path) tables ≡ Some table → IsEntryOf format tables table cgroup

-- it is told of the files beyond `LimitFile` of these cgroups, by rising paths, what the tables tell
pub record AreToldOf (format : Format) (tables : List Members) (told : List (Names × ToldFiles)) : Type 0 where
  pub sorted : is_sorted path_cmp told ≡ true
  pub each : (path : Names) → lookup (same_path path) told ≡ option_and_then (told_row format) (find (has_path path) tables)

-- the cgroups are those of these tables, and enable what these say
pub record IsAmong (tables : List Members) (cgroups : map.FinMap path_cmp Cgroup) : Type 0 where
  pub there : (path : Names) → is_some (map.get cgroups path) ≡ is_there tables path
  pub enabled : (path : Names) → option_map (λ cgroup. cgroup.enabled) (map.get cgroups path) ≡ enabled_there tables path

-- ---- processes

pub record IsLive (row : Members) (live : ℕ × Process) : Type 0 where
  pub pid : pid_said row ≡ Some live.0
  pub uid : uid_said row ≡ Some live.1.uid
  pub place : path_said (codes "at") row ≡ Some live.1.place

-- the processes of these tables, whose PIDs are those that are taken
pub record AreProcesses (rows : List Members) (live : map.FinMap nat_cmp Process) (taken : set.FinSet nat_cmp) : Type 0 where
  pub pids : (pid : ℕ) → is_some (map.get live pid) ≡ list_any (has_pid pid) rows
  pub processes : (pid : ℕ) (process : Process) → map.get live pid ≡ Some process → (row : Members) × (find (has_pid pid) rows ≡ Some row) × IsLive row (pid, process)
  pub used : (pid : ℕ) → set.contains taken pid ≡ is_some (map.get live pid)
