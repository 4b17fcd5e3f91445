use Rattle.std.proofs.Common.{◌≡◌, map, take}
use Rattle.std.specs.List.{flat_map}
use Rattle.cg_everybody.specs.Everybody.{everybody_of}
use Rattle.cg_everybody.specs.Entrances.{class_lines, entrance_spot}
use Rattle.cg_everybody.proofs.lines.entrances_lines.Given as goal

abbrev pub invariant-loop-each : goal.invariant-loop-each
invariant-loop-each l = l.text.items ≡ flat_map (class_lines (everybody_of l.asked)) (map entrance_spot (take l.each-index l.found))
