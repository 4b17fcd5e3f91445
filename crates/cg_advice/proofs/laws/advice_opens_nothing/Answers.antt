use Rattle.cg_advice.proofs.Advising.{opens-nothing}
use Rattle.cg_advice.proofs.laws.advice_opens_nothing.Goals as goal

pub returns : goal.returns
returns c = opens-nothing
