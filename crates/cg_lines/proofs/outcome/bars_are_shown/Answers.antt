use Rattle.cg_lines.proofs.OutcomeLaws.{bars_shown}
use Rattle.cg_lines.proofs.outcome.bars_are_shown.Goals as goal

pub returns : goal.returns
returns c = bars_shown
