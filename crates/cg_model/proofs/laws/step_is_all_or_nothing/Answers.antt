use Rattle.cg_model.proofs.StepFormed.{after-allowed, after-barred}
use Rattle.cg_model.proofs.laws.step_is_all_or_nothing.Goals as goal

pub returns : goal.returns
returns c = record { allowed = after-allowed; barred = after-barred }
