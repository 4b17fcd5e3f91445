use Rattle.std.proofs.Common.{◌∙◌, ◌++◌, ap, sym, map, take}
use Rattle.std.specs.List.{flat_map}
use Rattle.cg_advice.proofs.Gathering.{one_more, flat_more}
use Rattle.cg_everybody.specs.Everybody.{everybody_of}
use Rattle.cg_everybody.specs.Entrances.{class_lines, entrance_spot}
use Rattle.cg_everybody.proofs.lines.entrances_lines.Goals as goal

pub loop-each-preserved : goal.loop-each-preserved
loop-each-preserved c =
    let lines = class_lines (everybody_of c.args.asked.now) in
    let spot = entrance_spot c.each-item.result in
    c.in_ok-push_entry.ensures ∙ ap (λ text. text ++ lines spot) c.loop-each.invariant
    ∙ sym (flat_more lines (map entrance_spot (take c.loop-each.each-index c.args.found.now)) spot)
    ∙ ap (flat_map lines)
    (sym (one_more entrance_spot c.args.found.now c.loop-each.each-index c.each-item.result c.loop-each-test.true c.each-item.is))
