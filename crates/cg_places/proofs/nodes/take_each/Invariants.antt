use Rattle.cg_places.proofs.Taken.{TakenBelow}
use Rattle.cg_places.proofs.nodes.take_each.Given as goal

abbrev pub invariant-loop-place : goal.invariant-loop-place
invariant-loop-place l = TakenBelow l.changed l.from l.fn.files l.files l.place
