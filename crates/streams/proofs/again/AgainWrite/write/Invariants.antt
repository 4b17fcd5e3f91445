-- Calls that were interrupted left the bytes as they were.
use Rattle.std.specs.Io.KnownBytes.{Keeps}
use Rattle.streams.proofs.again.AgainWrite.write.Given as goal

abbrev pub invariant-loop-turn : goal.invariant-loop-turn
invariant-loop-turn g l = Keeps (g.W.Write.contents l.fn.self.inner) (g.W.Write.contents l.self.inner)
