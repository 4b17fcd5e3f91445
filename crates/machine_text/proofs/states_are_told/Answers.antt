use Rattle.machine_text.proofs.Told.{tells}
use Rattle.machine_text.proofs.states_are_told.Goals as goal

pub returns : goal.returns
returns c = tells
