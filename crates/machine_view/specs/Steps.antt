-- What a step of the exact machine is on the one that refuses as little as containment takes.
use Rattle.std.specs.Prelude.{◌≡◌, ℕ, Bool, true, count_by}
use Rattle.cg_cgroup.specs.Paths.{Names}
use Rattle.cg_cgroup.specs.Identity.{Identity}
use Rattle.machine.specs.Machines.{File, Machine, Act, lets, done}

-- Two machines are the same: of the cgroups that pass a test there are as many, whatever the test; files and processes are the same.
pub record IsSame (one other : Machine) : Type 0 where
  pub paths : (test : Names → Bool) → count_by test one.paths ≡ count_by test other.paths
  pub files : (path : Names) (file : File) → one.inode path file ≡ other.inode path file
  pub places : (pid : ℕ) → one.cgroup pid ≡ other.cgroup pid

-- The act is let through, and leaves this.
pub record IsStep (before : Machine) (user : Identity) (act : Act) (later : Machine) : Type 0 where
  pub allowed : lets before user act ≡ true
  pub leaves : IsSame later (done before act)
