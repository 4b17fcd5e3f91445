use Rattle.cg_places.proofs.Listed.{AreListed}
use Rattle.cg_places.proofs.path_index.PathIndex.paths.Given as goal

abbrev pub invariant-loop-text : goal.invariant-loop-text
invariant-loop-text l = AreListed l.initial.text-iterator l.text-iterator l.paths.keys
