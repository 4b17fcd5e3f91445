-- How a tree is kept: nobody has to believe it.
-- How `Rows` keeps a tree: the state that its tables show, and what holds of the root that a tree begins with.
use Rattle.std.specs.Prelude.{◌≡◌, true, [], None}
use Rattle.std.specs.FinMap as map
use Rattle.std.specs.FinSet as set
use Rattle.cg_cgroup.specs.Paths.{path_cmp}
use Rattle.cg_cgroup.specs.Files.{no_controllers, is_within}
use Rattle.cg_model.specs.States.{State}
use Rattle.cg_model.specs.WellFormed.{IsFormedRow}
use Rattle.cg_cgroup.specs.declared.controllers.ControllerSet.{ControllerSet}
use Rattle.cg_cgroup.specs.declared.cgroup.Cgroup.{Cgroup}
use Rattle.cg_cgroup.specs.declared.told.ToldFiles.{ToldFiles}
use Rattle.cg_rows.specs.Processes.{LiveAndUsed}

-- the state of these cgroups and processes, and of what is told of limit files beyond `LimitFile`
abbrev pub state_of_tables : map.FinMap path_cmp Cgroup → LiveAndUsed → map.FinMap path_cmp ToldFiles → ControllerSet → State
state_of_tables rows processes told controllers =
    record { rows = rows; told = told; live = processes.live; used = processes.used; controllers = controllers }

-- the state of a root alone, where no PID was ever used, and nothing is told
abbrev pub state_of_root : ControllerSet → Cgroup → State
state_of_root controllers row =
    record { rows = map.insert map.empty [] row; told = map.empty; live = map.empty; used = set.empty; controllers = controllers }

-- What a root is: the limit files of a cgroup without a parent, with values and modes in range, no `cgroup.freeze`, and no more
-- enabled than there is.
pub record IsRoot (controllers : ControllerSet) (row : Cgroup) : Type 0 where
  pub enables : is_within row.enabled controllers ≡ true
  pub formed : IsFormedRow no_controllers row
  pub freeze : row.freeze ≡ None
