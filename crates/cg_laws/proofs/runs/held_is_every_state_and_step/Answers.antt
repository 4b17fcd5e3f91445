use Rattle.cg_laws.proofs.ThroughoutLaws.{held-is_throughout, contained-is_throughout}
use Rattle.cg_laws.proofs.runs.held_is_every_state_and_step.Goals as goal

pub returns : goal.returns
returns c = record { held = held-is_throughout; contained = contained-is_throughout }
