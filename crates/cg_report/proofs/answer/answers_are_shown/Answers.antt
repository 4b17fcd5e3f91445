use Rattle.cg_report.proofs.Shown.{answers_are_shown as shown}
use Rattle.cg_report.proofs.answer.answers_are_shown.Goals as goal

pub returns : goal.returns
returns c = shown
