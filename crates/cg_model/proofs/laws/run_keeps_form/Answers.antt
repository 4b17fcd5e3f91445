use Rattle.cg_model.proofs.StepFormed.{formed-after_all}
use Rattle.cg_model.proofs.laws.run_keeps_form.Goals as goal

pub returns : goal.returns
returns c = formed-after_all
