-- How it is read and written: nobody has to believe it.
-- Why a line gave no operation.
use Rattle.cg_cgroup.specs.declared.path.PathFault.{PathFault}
use Rattle.cg_cgroup.specs.declared.path.PathFault.TheVariants as paths
use Rattle.cg_lines.specs.declared.lines.fault.LineFault.{LineFault}
use Rattle.cg_lines.specs.declared.lines.fault.LineFault.TheVariants.{BadWord, NoMemory}

-- the fault of a line whose path is none
abbrev pub lifted : PathFault → LineFault
lifted paths.BadPath = BadWord
lifted paths.NoMemory = NoMemory
