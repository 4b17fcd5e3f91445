use Rattle.machine_answers.proofs.MachineLaws.{contained_in}
use Rattle.machine_answers.proofs.checked.Goals as goal

pub returns : goal.returns
returns c = contained_in
