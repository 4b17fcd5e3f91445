use Rattle.cg_advice.proofs.Advising.{mends-all}
use Rattle.cg_advice.proofs.laws.advice_mends_all.Goals as goal

pub returns : goal.returns
returns c = mends-all
