use Rattle.cg_advice.proofs.Advising.{formed-advised}
use Rattle.cg_advice.proofs.laws.advice_keeps_form.Goals as goal

pub returns : goal.returns
returns c = λ st pairs formed few. formed-advised st formed pairs few
