use Rattle.cg_check.proofs.AnswerLaws.{escape-tried, escape-broken}
use Rattle.cg_check.proofs.laws.escapes_break.Goals as goal

pub returns-clause-tried : goal.returns-clause-tried
returns-clause-tried c = escape-tried

pub returns-clause-broken : goal.returns-clause-broken
returns-clause-broken c = escape-broken
