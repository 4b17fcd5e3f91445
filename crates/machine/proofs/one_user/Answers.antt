use Rattle.machine.proofs.Runs.{contained-one}
use Rattle.machine.proofs.one_user.Goals as goal

pub returns : goal.returns
returns c = contained-one
