use Rattle.cg_lines.proofs.Wider.{wider-range, wider-line, wider-lines}
use Rattle.cg_lines.proofs.lines.laws.wider_vocabularies_have_lines.Goals as goal

pub returns : goal.returns
returns c = record { range = wider-range; line = wider-line; lines = wider-lines }
