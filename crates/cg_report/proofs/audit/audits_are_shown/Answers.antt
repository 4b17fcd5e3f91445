use Rattle.cg_report.proofs.ShownPairs.{audits_are_shown as shown}
use Rattle.cg_report.proofs.audit.audits_are_shown.Goals as goal

pub returns : goal.returns
returns c = shown
