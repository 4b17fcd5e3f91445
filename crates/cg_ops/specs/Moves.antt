-- How an operation is carried out: nobody has to believe it.
-- What moves ask of a tree.
use Rattle.std.specs.Prelude.{Bool, true, None, Some}
use Rattle.cg_cgroup.specs.Paths.{Names}
use Rattle.cg_cgroup.specs.Identity.{Identity}
use Rattle.cg_cgroup.specs.Users.{writes}
use Rattle.cg_model.specs.States.{State, row_at}

-- the user writes cgroup.procs there, if there is such a cgroup
abbrev pub passes_at : State → Identity → Names → Bool
passes_at st user path = elim (row_at st path) [ None ↦ true | Some row ↦ writes user row.procs ]
