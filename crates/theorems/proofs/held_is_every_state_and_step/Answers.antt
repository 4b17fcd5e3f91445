use Rattle.cg_laws.proofs.ThroughoutLaws.{held-is_throughout, contained-is_throughout}
use Rattle.machine_answers.proofs.GuardedLaws.{throughout_by_status}
use Rattle.theorems.proofs.held_is_every_state_and_step.Goals as goal

pub returns : goal.returns
returns c = record {
  held = held-is_throughout;
  contained = contained-is_throughout;
  bytes = λ text st uid gids user word subtree ops of_text of_user of_path is.
      throughout_by_status text st uid gids user word subtree of_text of_user of_path is ops;
}
