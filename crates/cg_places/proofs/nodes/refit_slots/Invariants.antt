use Rattle.cg_places.proofs.Refits.{SlotsBelow}
use Rattle.cg_places.proofs.nodes.refit_slots.Given as goal

abbrev pub invariant-loop-i : goal.invariant-loop-i
invariant-loop-i l = SlotsBelow l.links l.at l.changed l.fresh l.fn.slots l.slots l.i
