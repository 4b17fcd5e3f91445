use Rattle.cg_check.proofs.AnswerLaws.{over-escapes}
use Rattle.cg_check.proofs.laws.over_limits_escapes.Goals as goal

pub returns : goal.returns
returns c = over-escapes
