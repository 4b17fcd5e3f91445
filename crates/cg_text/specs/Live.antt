-- How it is read and written: nobody has to believe it.
-- The reader's processes, held against what their tables say.
use Rattle.std.specs.Prelude.{◌≡◌, ℕ, ◌||◌, List, ◌++◌, codes, Some, is_some, option_and_then, find}
use Rattle.std.specs.List.{list_any}
use Rattle.std.specs.Ordering.{nat_cmp}
use Rattle.std.specs.BTreeMap.{BTreeMap, get}
use Rattle.toml.specs.Data.{Members}
use Rattle.cg_cgroup.specs.Paths.{is_root}
use Rattle.cg_cgroup.specs.Files.{enables_nothing}
use Rattle.cg_cgroup.specs.declared.process.Process.{Process}
use Rattle.cg_model.specs.Clauses.{unless, absent, present}
use Rattle.cg_format.specs.Said.{path_said, has_path}
use Rattle.cg_format.specs.TextOf.{has_pid}
use Rattle.cg_format.specs.Tables.{IsLive}
use Rattle.cg_format.specs.TextFaults.{enabled_there}
use Rattle.cg_format.specs.declared.fault.Place.{Place}
use Rattle.cg_format.specs.declared.fault.TreeFault.{TreeFault}
use Rattle.cg_format.specs.declared.fault.TreeFault.TheVariants.{NoSuchPlace, InternalProcess}

-- the clauses on a process's place, which are the last of its own
abbrev pub place_faults : List Members → Place → Members → List TreeFault
place_faults tables place row =
    absent (option_and_then (λ path. find (has_path path) tables) (path_said (codes "at") row)) (NoSuchPlace place)
    ++ present (path_said (codes "at") row) (λ path. present (enabled_there tables path) (λ enabled. unless (is_root path || enables_nothing enabled) (InternalProcess place)))

-- the PIDs of these tables
abbrev pub AreEarlier : List Members → BTreeMap ℕ Process → Type 0
AreEarlier rows live = (pid : ℕ) → is_some (get nat_cmp live pid) ≡ list_any (has_pid pid) rows

-- the processes of these tables
pub record AreLive (rows : List Members) (live : BTreeMap ℕ Process) : Type 0 where
  pub pids : AreEarlier rows live
  pub processes : (pid : ℕ) (process : Process) → get nat_cmp live pid ≡ Some process → (row : Members) × (find (has_pid pid) rows ≡ Some row) × IsLive row (pid, process)
