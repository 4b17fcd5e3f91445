-- How it is read and written: nobody has to believe it.
-- Which operations take memory to carry out: those after which a path stands somewhere new, or more is told of a limit file.
use Rattle.std.specs.Prelude.{Bool, true, false}
use Rattle.cg_cgroup.specs.Files.{is_beyond}
use Rattle.cg_model.specs.declared.operation.Op.{Op}
use Rattle.cg_model.specs.declared.operation.Op.TheVariants.{Move, Mkdir, Fork, SetOther, Chmod}

abbrev pub takes_memory : Op → Bool
takes_memory (Move pid to) = true
takes_memory (Mkdir path) = true
takes_memory (Fork parent child) = true
takes_memory (SetOther at file value) = true
takes_memory (Chmod at name mode) = is_beyond name
takes_memory op = false
