use Rattle.cg_places.proofs.Refits.{SharedBelow}
use Rattle.cg_places.proofs.nodes.refit_shared.Given as goal

abbrev pub invariant-loop-i : goal.invariant-loop-i
invariant-loop-i l = SharedBelow l.at l.changed l.fresh l.fn.shared l.shared l.i
