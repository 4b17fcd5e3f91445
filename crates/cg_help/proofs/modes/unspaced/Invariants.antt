use Rattle.std.proofs.Common.{◌≡◌, length}
use Rattle.cg_help.specs.Modes.{unspaced}
use Rattle.cg_help.proofs.modes.unspaced.Given as goal

-- what is left decides
abbrev pub invariant-loop-byte : goal.invariant-loop-byte
invariant-loop-byte l = unspaced l.left ≡ unspaced l.text

abbrev pub decreases-loop-byte : goal.decreases-loop-byte
decreases-loop-byte l = length l.left
