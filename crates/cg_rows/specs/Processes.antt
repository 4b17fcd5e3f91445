-- How a tree is kept: nobody has to believe it.
-- The processes of a tree: those that are live, by PID, and the PIDs that were ever used.
use Rattle.std.specs.Prelude.{ℕ, None, Some}
use Rattle.std.specs.Ordering.{nat_cmp}
use Rattle.std.specs.FinMap as map
use Rattle.std.specs.FinSet as set
use Rattle.cg_cgroup.specs.Paths.{Names}
use Rattle.cg_model.specs.States.{placed_at}
use Rattle.cg_cgroup.specs.declared.process.Process.{Process}

pub record LiveAndUsed : Type 0 where
  pub live : map.FinMap nat_cmp Process
  pub used : set.FinSet nat_cmp

abbrev pub no_processes : LiveAndUsed
no_processes = record { live = map.empty; used = set.empty }

-- a new process: its PID is live and used
abbrev pub with_new : LiveAndUsed → ℕ → Process → LiveAndUsed
with_new processes pid process = record { live = map.insert processes.live pid process; used = set.insert processes.used pid }

-- an ended process: its PID stays used
abbrev pub without : LiveAndUsed → ℕ → LiveAndUsed
without processes pid = record processes { live = map.remove processes.live pid }

-- a process elsewhere, where it is live
abbrev pub with_place_of : LiveAndUsed → ℕ → Names → LiveAndUsed
with_place_of processes pid path =
    record processes { live = elim (map.get processes.live pid) [ None ↦ processes.live | Some process ↦ map.insert processes.live pid (placed_at path process) ] }
