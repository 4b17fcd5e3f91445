use Rattle.std.proofs.Common.{ℕ, ◌≤◌, List}
use Rattle.std.specs.Io.KnownBytes.{Consumes}
use Rattle.cg_cli.specs.Replaying.{standing_of, coming, most_taken, IsWaiting, Leads}
use Rattle.cg_cli.proofs.replay.reader.replay_reader.Given as goal

-- what the reader gave led here, and each ask took a byte at least
abbrev pub invariant-loop-asked : goal.invariant-loop-asked
invariant-loop-asked g l = record {
  waiting : IsWaiting (standing_of g.C.OnCourse.course l.run);
  asked : l._asked ≤ most_taken (standing_of g.C.OnCourse.course l.run);
  given : List ℕ;
  gave : Consumes (g.R.Read.remaining l.initial.ops) (g.R.Read.remaining l.ops) given;
  way :
      Leads (coming (standing_of g.C.OnCourse.course l.initial.run)) (coming (standing_of g.C.OnCourse.course l.run))
      given (g.W.Write.contents l.initial.out) (g.W.Write.contents l.out);
}
