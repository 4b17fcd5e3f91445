use Rattle.std.proofs.Common.{◌≡◌, ℕ, List, ◌++◌, length}
use Rattle.cg_cli.specs.Replaying.{standing_of, coming, IsWaiting, Leads}
use Rattle.cg_cli.proofs.replay.replay_slice.Given as goal

-- what was taken of the operations led here
abbrev pub invariant-loop-rest : goal.invariant-loop-rest
invariant-loop-rest g l = record {
  waiting : IsWaiting (standing_of g.C.OnCourse.course l.run);
  given : List ℕ;
  split : l.ops ≡ given ++ l.rest;
  way :
      Leads (coming (standing_of g.C.OnCourse.course l.initial.run)) (coming (standing_of g.C.OnCourse.course l.run))
      given (g.W.Write.contents l.initial.out) (g.W.Write.contents l.out);
}

abbrev pub decreases-loop-rest : goal.decreases-loop-rest
decreases-loop-rest g l = length l.rest
