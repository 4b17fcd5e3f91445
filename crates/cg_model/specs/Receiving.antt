-- Where processes may come: nobody has to believe it.
-- Delegation Containment; No Internal Process Constraint.
use Rattle.std.specs.Prelude.{Bool, false, ◌&&◌, ◌||◌, List, filter, None, Some}
use Rattle.cg_cgroup.specs.Paths.{Names, is_root}
use Rattle.cg_cgroup.specs.Identity.{Identity}
use Rattle.cg_cgroup.specs.Users.{writes}
use Rattle.cg_cgroup.specs.Files.{enables_nothing}
use Rattle.cg_cgroup.specs.declared.cgroup.Cgroup.{Cgroup}
use Rattle.cg_model.specs.States.{State, row_at, paths_of}

-- the user writes cgroup.procs, and processes may be there
abbrev pub row_receives : Identity → Names → Cgroup → Bool
row_receives user path row = writes user row.procs && (is_root path || enables_nothing row.enabled)

-- a process may come to a place, once it may pass
abbrev pub receives : State → Identity → Names → Bool
receives st user path = elim (row_at st path) [ None ↦ false | Some row ↦ row_receives user path row ]

-- all such places, in the order of their paths
abbrev pub receivers : State → Identity → List Names
receivers st user = filter (receives st user) (paths_of st)
