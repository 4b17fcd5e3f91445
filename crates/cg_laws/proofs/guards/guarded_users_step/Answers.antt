use Rattle.cg_laws.proofs.Steps.{sound-formed, kept-after}
use Rattle.cg_laws.proofs.guards.guarded_users_step.Goals as goal

pub returns : goal.returns
returns c = λ st user subtree op whole. kept-after st user subtree op (sound-formed st whole)
