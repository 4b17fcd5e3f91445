use Rattle.cg_laws.proofs.Steps.{sound-formed}
use Rattle.cg_second.proofs.Cases.{second-guarded}
use Rattle.cg_second.proofs.laws.guards_are_a_case.Goals as goal

pub returns : goal.returns
returns c = λ st users subtree formed is some guards. second-guarded st users subtree (sound-formed st formed) is guards some
