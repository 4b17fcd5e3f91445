use Rattle.cg_model.proofs.StepEffects.{process_at-after, is_used-after, used-after}
use Rattle.cg_model.proofs.laws.step_leaves_processes.Goals as goal

pub returns : goal.returns
returns c = record { processes = process_at-after; used = is_used-after; still_used = used-after }
