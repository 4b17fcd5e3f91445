use Rattle.std.proofs.Common.{map, take}
use Rattle.std.specs.BTreeSet.{contains}
use Rattle.cg_model.specs.Mends.{same_place}
use Rattle.cg_advice.specs.Ways.{entering, key_cmp, is_keyed, gathered_lines}
use Rattle.cg_advice.proofs.Gathering.{AreWritten}
use Rattle.cg_advice.proofs.text.push_entries.Given as goal

abbrev pub invariant-loop-each : goal.invariant-loop-each
invariant-loop-each l =
    AreWritten (gathered_lines (map entering l.entrants)) same_place is_keyed l.text.items l.fn.text.items
    (map entering (take l.each-index l.entrants)) (contains key_cmp l.seen)
