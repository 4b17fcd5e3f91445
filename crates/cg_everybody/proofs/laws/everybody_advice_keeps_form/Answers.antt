use Rattle.cg_everybody.proofs.Changed.{formed-everybody}
use Rattle.cg_everybody.proofs.laws.everybody_advice_keeps_form.Goals as goal

pub returns : goal.returns
returns c = formed-everybody
