use Rattle.std.proofs.Common.{◌≡◌, false, take}
use Rattle.std.specs.List.{All}
use Rattle.cg_cli.specs.Replays.{is_newline}
use Rattle.cg_cli.proofs.replay.line.line_end.Given as goal

-- no newline so far
abbrev pub invariant-loop-i : goal.invariant-loop-i
invariant-loop-i l = All (λ b. is_newline b ≡ false) (take l.i l.bytes)
