use Rattle.cg_advice.proofs.Advising.{is_advised}
use Rattle.cg_advice.proofs.laws.advice_changes_no_more.Goals as goal

pub returns : goal.returns
returns c = is_advised
