use Rattle.cg_everybody.proofs.Changed.{opens-nobody}
use Rattle.cg_everybody.proofs.laws.everybody_advice_opens_nothing.Goals as goal

pub returns : goal.returns
returns c = opens-nobody
