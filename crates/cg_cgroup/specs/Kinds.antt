-- The controllers and the limit files, one row each.
use Rattle.std.specs.Prelude.{ℕ, ◌-◌, Bool, true, false, List, [], ◌∷◌, drop, Option, Some, None, codes}
use Rattle.cg_cgroup.specs.declared.files.Limit.{Limit}
use Rattle.cg_cgroup.specs.declared.files.Limit.TheVariants.{Max, At}
use Rattle.cg_cgroup.specs.declared.files.Controller.{Controller}
use Rattle.cg_cgroup.specs.declared.files.Controller.TheVariants.{Cpuset, Cpu, Io, Memory, Hugetlb, Pids, Rdma, Misc, Dmem}
use Rattle.cg_cgroup.specs.declared.files.LimitFile.{LimitFile}
use Rattle.cg_cgroup.specs.declared.files.LimitFile.TheVariants.{MaxDescendants, MaxDepth, CpuWeight, MemoryMin, MemoryLow, MemoryHigh, MemoryMax, PidsMax}

-- Own: the order used everywhere.
abbrev pub all_controllers : List Controller
all_controllers = Cpuset ∷ Cpu ∷ Io ∷ Memory ∷ Hugetlb ∷ Pids ∷ Rdma ∷ Misc ∷ Dmem ∷ []

-- Own: those that texts of formats 1 and 2, and operation lines beside them, know: the ones that bring a `LimitFile`.
abbrev pub format_2_controllers : List Controller
format_2_controllers = Cpu ∷ Memory ∷ Pids ∷ []

-- A controller: its number in that order, and its name.
pub record ControllerKind : Type 0 where
  pub number : ℕ
  pub name : List ℕ

abbrev pub controller_kind : Controller → ControllerKind
controller_kind Cpuset = record { number = 0; name = codes "cpuset" }
controller_kind Cpu = record { number = 1; name = codes "cpu" }
controller_kind Io = record { number = 2; name = codes "io" }
controller_kind Memory = record { number = 3; name = codes "memory" }
controller_kind Hugetlb = record { number = 4; name = codes "hugetlb" }
controller_kind Pids = record { number = 5; name = codes "pids" }
controller_kind Rdma = record { number = 6; name = codes "rdma" }
controller_kind Misc = record { number = 7; name = codes "misc" }
controller_kind Dmem = record { number = 8; name = codes "dmem" }

abbrev pub controller_name : Controller → List ℕ
controller_name controller = (controller_kind controller).name

-- The order used everywhere. Core Interface Files; CPU, Memory and PID. The two of the core come first.
abbrev pub all_files : List LimitFile
all_files = MaxDescendants ∷ MaxDepth ∷ CpuWeight ∷ MemoryMin ∷ MemoryLow ∷ MemoryHigh ∷ MemoryMax ∷ PidsMax ∷ []

-- A limit file: its number in that order, its name, the controller that brings it, its value where it has just been made,
-- and what it takes: the numbers from the least to the greatest, and `max` or not.
pub record Kind : Type 0 where
  pub number : ℕ
  pub name : List ℕ
  pub controller : Option Controller
  pub default : Limit
  pub least : ℕ
  pub greatest : ℕ
  pub takes_max : Bool

-- Own: most files take `max` and each number that fits 63 bits.
abbrev usual : ℕ → List ℕ → Option Controller → Limit → Kind
usual number name controller default = record {
  number = number;
  name = name;
  controller = controller;
  default = default;
  least = 0;
  greatest = 9223372036854775807;
  takes_max = true;
}

-- Enabling and Disabling; Core Interface Files; CPU: a weight is 1 to 10000; Memory; PID.
abbrev pub kind_of : LimitFile → Kind
kind_of MaxDescendants = usual 0 (codes "cgroup.max.descendants") None Max
kind_of MaxDepth = usual 1 (codes "cgroup.max.depth") None Max
kind_of CpuWeight = record (usual 2 (codes "cpu.weight") (Some Cpu) (At 100)) { least = 1; greatest = 10000; takes_max = false }
kind_of MemoryMin = usual 3 (codes "memory.min") (Some Memory) (At 0)
kind_of MemoryLow = usual 4 (codes "memory.low") (Some Memory) (At 0)
kind_of MemoryHigh = usual 5 (codes "memory.high") (Some Memory) Max
kind_of MemoryMax = usual 6 (codes "memory.max") (Some Memory) Max
kind_of PidsMax = usual 7 (codes "pids.max") (Some Pids) Max

abbrev pub file_name : LimitFile → List ℕ
file_name file = (kind_of file).name

-- The files that controllers bring, and the place of each among them.
abbrev pub brought_files : List LimitFile
brought_files = drop 2 all_files

abbrev pub place_of : LimitFile → ℕ
place_of file = (kind_of file).number - 2
