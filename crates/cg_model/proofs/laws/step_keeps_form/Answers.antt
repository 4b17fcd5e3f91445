use Rattle.cg_model.proofs.StepFormed.{formed-after}
use Rattle.cg_model.proofs.laws.step_keeps_form.Goals as goal

pub returns : goal.returns
returns c = formed-after
