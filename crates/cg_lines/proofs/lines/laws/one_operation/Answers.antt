use Rattle.cg_lines.proofs.LineLaws.{one_operation as one_of_line}
use Rattle.cg_lines.proofs.lines.laws.one_operation.Goals as goal

pub returns : goal.returns
returns c = one_of_line
