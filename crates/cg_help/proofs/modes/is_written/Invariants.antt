use Rattle.std.proofs.Common.{◌≡◌, length}
use Rattle.cg_help.specs.Modes.{is_written}
use Rattle.cg_help.proofs.modes.is_written.Given as goal

-- what is left decides
abbrev pub invariant-loop-rest : goal.invariant-loop-rest
invariant-loop-rest l = is_written l.left ≡ is_written l.text

abbrev pub decreases-loop-rest : goal.decreases-loop-rest
decreases-loop-rest l = length l.left
