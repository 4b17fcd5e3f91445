-- Calls that were interrupted left the bytes as they were.
use Rattle.std.specs.Io.KnownBytes.{Keeps}
use Rattle.streams.proofs.again.AgainRead.read.Given as goal

abbrev pub invariant-loop-turn : goal.invariant-loop-turn
invariant-loop-turn g l = Keeps (g.R.Read.remaining l.fn.self.inner) (g.R.Read.remaining l.self.inner)
