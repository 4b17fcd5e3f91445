use Rattle.std.proofs.Common.{length, ◌-◌, ◌≤◌}
use Rattle.std.specs.Io.KnownBytes.{Consumes}
use Rattle.cg_input.proofs.read.read_beginning.Given as goal

-- what was read so far is the front of what the reader had
abbrev pub invariant-loop-piece : goal.invariant-loop-piece
invariant-loop-piece g l = record {
  bound : length l.text.items ≤ 128;
  bytes : Consumes (g.R.Read.remaining l.initial.reader) (g.R.Read.remaining l.reader) l.text.items;
}

abbrev pub decreases-loop-piece : goal.decreases-loop-piece
decreases-loop-piece g l = 128 - length l.text.items
