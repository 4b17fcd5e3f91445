use Rattle.cg_laws.proofs.Steps.{sound-formed, untouched-unopened}
use Rattle.cg_laws.proofs.guards.anyones_step.Goals as goal

pub returns : goal.returns
returns c = λ st user subtree op whole. untouched-unopened st user subtree op (sound-formed st whole)
