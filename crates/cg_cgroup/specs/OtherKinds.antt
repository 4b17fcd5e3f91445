-- The limit files beyond `LimitFile`, one row each.
use Rattle.std.specs.Prelude.{ℕ, Bool, true, false, List, [], ◌∷◌, Option, Some, None, codes}
use Rattle.std.specs.List.{find}
use Rattle.cg_cgroup.specs.Paths.{same_name}
use Rattle.cg_cgroup.specs.declared.files.Controller.{Controller}
use Rattle.cg_cgroup.specs.declared.files.Controller.TheVariants.{Cpuset, Cpu, Io, Memory, Hugetlb, Rdma, Misc, Dmem}
use Rattle.cg_cgroup.specs.declared.other_file.OtherFile.{OtherFile}
use Rattle.cg_cgroup.specs.declared.other_file.OtherFile.TheVariants.{Freeze, CpuIdle, CpuMax, CpuMaxBurst, CpuUclampMax, CpuUclampMin, CpuWeightNice, CpusetCpus, CpusetCpusExclusive, CpusetCpusPartition, CpusetMems, DmemLow, DmemMax, DmemMin, HugetlbOf16GbMax, HugetlbOf16GbReservedMax, HugetlbOf16MbMax, HugetlbOf16MbReservedMax, HugetlbOf1GbMax, HugetlbOf1GbReservedMax, HugetlbOf1MbMax, HugetlbOf1MbReservedMax, HugetlbOf2GbMax, HugetlbOf2GbReservedMax, HugetlbOf2MbMax, HugetlbOf2MbReservedMax, HugetlbOf32MbMax, HugetlbOf32MbReservedMax, HugetlbOf512MbMax, HugetlbOf512MbReservedMax, HugetlbOf64KbMax, HugetlbOf64KbReservedMax, IoBfqWeight, IoLatency, IoMax, IoPrioClass, IoWeight, MemorySwapHigh, MemorySwapMax, MemoryZswapMax, MemoryZswapWriteback, MiscMax, RdmaMax}

-- Own: in the order of their names.
abbrev pub all_others : List OtherFile
all_others =
    Freeze ∷ CpuIdle ∷ CpuMax ∷ CpuMaxBurst ∷ CpuUclampMax ∷ CpuUclampMin ∷ CpuWeightNice ∷ CpusetCpus ∷ CpusetCpusExclusive ∷
    CpusetCpusPartition ∷ CpusetMems ∷ DmemLow ∷ DmemMax ∷ DmemMin ∷ HugetlbOf16GbMax ∷ HugetlbOf16GbReservedMax ∷ HugetlbOf16MbMax ∷
    HugetlbOf16MbReservedMax ∷ HugetlbOf1GbMax ∷ HugetlbOf1GbReservedMax ∷ HugetlbOf1MbMax ∷ HugetlbOf1MbReservedMax ∷ HugetlbOf2GbMax ∷
    HugetlbOf2GbReservedMax ∷ HugetlbOf2MbMax ∷ HugetlbOf2MbReservedMax ∷ HugetlbOf32MbMax ∷ HugetlbOf32MbReservedMax ∷
    HugetlbOf512MbMax ∷ HugetlbOf512MbReservedMax ∷ HugetlbOf64KbMax ∷ HugetlbOf64KbReservedMax ∷ IoBfqWeight ∷ IoLatency ∷ IoMax ∷
    IoPrioClass ∷ IoWeight ∷ MemorySwapHigh ∷ MemorySwapMax ∷ MemoryZswapMax ∷ MemoryZswapWriteback ∷ MiscMax ∷ RdmaMax ∷ []

-- Such a file: its number in that order, its name, the controller that brings it, whether each of its lines begins with a device or a
-- resource, and two values without that: one that loosens the file, and another.
pub record OtherKind : Type 0 where
  pub number : ℕ
  pub name : List ℕ
  pub controller : Option Controller
  pub of_devices : Bool
  pub loose : List ℕ
  pub other : List ℕ

abbrev row : ℕ → List ℕ → Option Controller → List ℕ → List ℕ → OtherKind
row number name controller loose other =
    record { number = number; name = name; controller = controller; of_devices = false; loose = loose; other = other }

abbrev by_device : OtherKind → OtherKind
by_device kind = record kind { of_devices = true }

-- Core Interface Files; CPU, Memory, IO, Cpuset, HugeTLB, RDMA, Misc, DMEM. Own: both texts.
abbrev pub other_kind : OtherFile → OtherKind
other_kind Freeze = row 0 (codes "cgroup.freeze") None (codes "0") (codes "1")
other_kind CpuIdle = row 1 (codes "cpu.idle") (Some Cpu) (codes "0") (codes "1")
other_kind CpuMax = row 2 (codes "cpu.max") (Some Cpu) (codes "max 100000") (codes "max 50000")
other_kind CpuMaxBurst = row 3 (codes "cpu.max.burst") (Some Cpu) (codes "0") (codes "1")
other_kind CpuUclampMax = row 4 (codes "cpu.uclamp.max") (Some Cpu) (codes "max") (codes "50")
other_kind CpuUclampMin = row 5 (codes "cpu.uclamp.min") (Some Cpu) (codes "max") (codes "0")
other_kind CpuWeightNice = row 6 (codes "cpu.weight.nice") (Some Cpu) (codes "-20") (codes "-19")
other_kind CpusetCpus = row 7 (codes "cpuset.cpus") (Some Cpuset) (codes "0-1") (codes "0")
other_kind CpusetCpusExclusive = row 8 (codes "cpuset.cpus.exclusive") (Some Cpuset) (codes "0-1") (codes "0")
other_kind CpusetCpusPartition = row 9 (codes "cpuset.cpus.partition") (Some Cpuset) (codes "member") (codes "root")
other_kind CpusetMems = row 10 (codes "cpuset.mems") (Some Cpuset) (codes "0-1") (codes "0")
other_kind DmemLow = by_device (row 11 (codes "dmem.low") (Some Dmem) (codes "max") (codes "0"))
other_kind DmemMax = by_device (row 12 (codes "dmem.max") (Some Dmem) (codes "max") (codes "0"))
other_kind DmemMin = by_device (row 13 (codes "dmem.min") (Some Dmem) (codes "max") (codes "0"))
other_kind HugetlbOf16GbMax = row 14 (codes "hugetlb.16GB.max") (Some Hugetlb) (codes "max") (codes "0")
other_kind HugetlbOf16GbReservedMax = row 15 (codes "hugetlb.16GB.rsvd.max") (Some Hugetlb) (codes "max") (codes "0")
other_kind HugetlbOf16MbMax = row 16 (codes "hugetlb.16MB.max") (Some Hugetlb) (codes "max") (codes "0")
other_kind HugetlbOf16MbReservedMax = row 17 (codes "hugetlb.16MB.rsvd.max") (Some Hugetlb) (codes "max") (codes "0")
other_kind HugetlbOf1GbMax = row 18 (codes "hugetlb.1GB.max") (Some Hugetlb) (codes "max") (codes "0")
other_kind HugetlbOf1GbReservedMax = row 19 (codes "hugetlb.1GB.rsvd.max") (Some Hugetlb) (codes "max") (codes "0")
other_kind HugetlbOf1MbMax = row 20 (codes "hugetlb.1MB.max") (Some Hugetlb) (codes "max") (codes "0")
other_kind HugetlbOf1MbReservedMax = row 21 (codes "hugetlb.1MB.rsvd.max") (Some Hugetlb) (codes "max") (codes "0")
other_kind HugetlbOf2GbMax = row 22 (codes "hugetlb.2GB.max") (Some Hugetlb) (codes "max") (codes "0")
other_kind HugetlbOf2GbReservedMax = row 23 (codes "hugetlb.2GB.rsvd.max") (Some Hugetlb) (codes "max") (codes "0")
other_kind HugetlbOf2MbMax = row 24 (codes "hugetlb.2MB.max") (Some Hugetlb) (codes "max") (codes "0")
other_kind HugetlbOf2MbReservedMax = row 25 (codes "hugetlb.2MB.rsvd.max") (Some Hugetlb) (codes "max") (codes "0")
other_kind HugetlbOf32MbMax = row 26 (codes "hugetlb.32MB.max") (Some Hugetlb) (codes "max") (codes "0")
other_kind HugetlbOf32MbReservedMax = row 27 (codes "hugetlb.32MB.rsvd.max") (Some Hugetlb) (codes "max") (codes "0")
other_kind HugetlbOf512MbMax = row 28 (codes "hugetlb.512MB.max") (Some Hugetlb) (codes "max") (codes "0")
other_kind HugetlbOf512MbReservedMax = row 29 (codes "hugetlb.512MB.rsvd.max") (Some Hugetlb) (codes "max") (codes "0")
other_kind HugetlbOf64KbMax = row 30 (codes "hugetlb.64KB.max") (Some Hugetlb) (codes "max") (codes "0")
other_kind HugetlbOf64KbReservedMax = row 31 (codes "hugetlb.64KB.rsvd.max") (Some Hugetlb) (codes "max") (codes "0")
other_kind IoBfqWeight = row 32 (codes "io.bfq.weight") (Some Io) (codes "default 1000") (codes "default 999")
other_kind IoLatency = by_device (row 33 (codes "io.latency") (Some Io) (codes "target=max") (codes "target=1"))
other_kind IoMax = by_device (row 34 (codes "io.max") (Some Io) (codes "rbps=max wbps=max riops=max wiops=max") (codes "rbps=2 wbps=2 riops=2 wiops=2"))
other_kind IoPrioClass = row 35 (codes "io.prio.class") (Some Io) (codes "no-change") (codes "none-to-rt")
other_kind IoWeight = row 36 (codes "io.weight") (Some Io) (codes "default 10000") (codes "default 9999")
other_kind MemorySwapHigh = row 37 (codes "memory.swap.high") (Some Memory) (codes "max") (codes "0")
other_kind MemorySwapMax = row 38 (codes "memory.swap.max") (Some Memory) (codes "max") (codes "0")
other_kind MemoryZswapMax = row 39 (codes "memory.zswap.max") (Some Memory) (codes "max") (codes "0")
other_kind MemoryZswapWriteback = row 40 (codes "memory.zswap.writeback") (Some Memory) (codes "1") (codes "0")
other_kind MiscMax = by_device (row 41 (codes "misc.max") (Some Misc) (codes "max") (codes "0"))
other_kind RdmaMax = by_device (row 42 (codes "rdma.max") (Some Rdma) (codes "hca_handle=max hca_object=max") (codes "hca_handle=0 hca_object=0"))

abbrev pub other_name : OtherFile → List ℕ
other_name file = (other_kind file).name

-- the file of a name
abbrev pub other_named : List ℕ → Option OtherFile
other_named text = find (λ file. same_name text (other_name file)) all_others

-- the controller that brings it
abbrev pub brought_by : OtherFile → Option Controller
brought_by file = (other_kind file).controller
