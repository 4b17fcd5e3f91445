use Rattle.machine_view.proofs.Stepping.{stepped}
use Rattle.machine_view.proofs.steps.Goals as goal

pub returns : goal.returns
returns c = λ st user op formed. stepped st user formed op
