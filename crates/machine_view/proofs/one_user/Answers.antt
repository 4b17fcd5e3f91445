use Rattle.machine_view.proofs.Seen.{contained}
use Rattle.machine_view.proofs.one_user.Goals as goal

pub returns : goal.returns
returns c = contained
