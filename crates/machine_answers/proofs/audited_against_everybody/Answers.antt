use Rattle.machine_answers.proofs.EverybodyLaws.{held_against_everybody}
use Rattle.machine_answers.proofs.audited_against_everybody.Goals as goal

pub returns : goal.returns
returns c = held_against_everybody
