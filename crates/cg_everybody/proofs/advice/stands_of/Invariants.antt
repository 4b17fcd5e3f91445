use Rattle.std.proofs.Common.{[], ◌∷◌, map, take}
use Rattle.std.specs.BTreeSet.{contains}
use Rattle.cg_advice.specs.Found.{stand_let}
use Rattle.cg_advice.specs.Ways.{key_cmp}
use Rattle.cg_advice.proofs.Gathering.{AreWritten}
use Rattle.cg_everybody.specs.Advice.{same_spot, let_into}
use Rattle.cg_everybody.specs.Entrances.{entrance_spot}
use Rattle.cg_everybody.specs.Everybody.{everybody_of}
use Rattle.cg_everybody.proofs.AdviceWritten.{is_keyed_spot}
use Rattle.cg_everybody.proofs.advice.stands_of.Given as goal

abbrev pub invariant-loop-each : goal.invariant-loop-each
invariant-loop-each l =
    AreWritten (λ spot. let_into (everybody_of l.asked) spot ∷ []) same_spot is_keyed_spot (map stand_let l.stands.items) []
    (map entrance_spot (take l.each-index l.found)) (contains key_cmp l.seen)
