-- The arguments of a call, as what they name, or as the fault that they are. Own.
use Rattle.std.specs.Prelude.{ℕ, nat_eq, cond, List, Result, Err}
use Rattle.std.specs.Option.{ok_or}
use Rattle.cg_cgroup.specs.Identity.{Identity}
use Rattle.cg_cgroup.specs.Users.{user_of}
use Rattle.cg_cgroup.specs.Numbers.{pid_of}
use Rattle.cg_cgroup.specs.Paths.{Names, path_at}
use Rattle.cg_faults.specs.declared.fault.CliFault.{CliFault}
use Rattle.cg_faults.specs.declared.fault.CliFault.TheVariants.{Uid, Gids, Pid, BadPath}

-- a user: the uid is looked at first, then the number of gids
abbrev pub user_read : ℕ → List ℕ → Result Identity CliFault
user_read uid gids = cond (nat_eq uid 0) (Err Uid) (ok_or (user_of uid gids) Gids)

abbrev pub pid_read : ℕ → Result ℕ CliFault
pid_read number = ok_or (pid_of number) Pid

abbrev pub path_read : List ℕ → Result Names CliFault
path_read text = ok_or (path_at text) BadPath
