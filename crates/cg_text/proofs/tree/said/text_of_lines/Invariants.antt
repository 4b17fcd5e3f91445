use Rattle.std.proofs.Common.{◌≡◌, drop, map, filter_map}
use Rattle.std.specs.String.{string_bytes}
use Rattle.toml.specs.Data.{as_str}
use Rattle.toml.specs.View.{view}
use Rattle.cg_format.specs.Said.{lines_text}
use Rattle.cg_text.proofs.LinesLaws.{lines_from}
use Rattle.cg_text.proofs.tree.said.text_of_lines.Given as goal

abbrev pub invariant-loop-value : goal.invariant-loop-value
invariant-loop-value l =
    lines_from l.is_first (string_bytes l.text) (filter_map as_str (map view (drop l.value-index l.lines)))
    ≡ lines_text (filter_map as_str (map view l.lines))
