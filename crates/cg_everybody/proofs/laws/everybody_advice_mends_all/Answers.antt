use Rattle.cg_everybody.proofs.Changed.{mends-everybody}
use Rattle.cg_everybody.proofs.laws.everybody_advice_mends_all.Goals as goal

pub returns : goal.returns
returns c = mends-everybody
