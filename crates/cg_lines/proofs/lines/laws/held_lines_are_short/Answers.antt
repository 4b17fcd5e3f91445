use Rattle.cg_lines.proofs.LineLengths.{line_length}
use Rattle.cg_lines.proofs.lines.laws.held_lines_are_short.Goals as goal

pub returns : goal.returns
returns c = line_length
