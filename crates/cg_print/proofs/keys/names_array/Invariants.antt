use Rattle.cg_print.proofs.NamesInTurn.{AreNames}
use Rattle.cg_print.proofs.keys.names_array.Given as goal

abbrev pub invariant-loop-controller : goal.invariant-loop-controller
invariant-loop-controller l = AreNames l.vocabulary l.set l.controller-index l.names.items
