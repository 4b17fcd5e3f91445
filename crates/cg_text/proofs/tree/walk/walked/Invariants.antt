use Rattle.cg_text.specs.Walk.{HasMet}
use Rattle.cg_text.proofs.tree.walk.walked.Given as goal

abbrev pub invariant-loop-row : goal.invariant-loop-row
invariant-loop-row l = HasMet l.controllers l.yielded l.walk
