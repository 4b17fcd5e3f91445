use Rattle.std.proofs.Common.{[], ◌∷◌, map, take}
use Rattle.std.specs.BTreeSet.{contains}
use Rattle.cg_model.specs.Mends.{same_place}
use Rattle.cg_advice.specs.Found.{stand_let, let_gathered}
use Rattle.cg_advice.specs.Ways.{entering, key_cmp, is_keyed}
use Rattle.cg_advice.proofs.Gathering.{AreWritten}
use Rattle.cg_advice.proofs.found.stands_of.Given as goal

abbrev pub invariant-loop-each : goal.invariant-loop-each
invariant-loop-each l =
    AreWritten (λ each. let_gathered (map entering l.entrants) each ∷ []) same_place is_keyed (map stand_let l.stands.items) []
    (map entering (take l.each-index l.entrants)) (contains key_cmp l.seen)
