use Rattle.machine_view.proofs.Seen.{guarded}
use Rattle.machine_view.proofs.Alike.{guards_there}
use Rattle.machine_view.proofs.guards.Goals as goal

pub returns : goal.returns
returns c = λ st user subtree is. (guarded st user subtree, guards_there st user subtree is)
