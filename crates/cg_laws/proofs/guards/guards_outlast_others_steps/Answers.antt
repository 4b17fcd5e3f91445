use Rattle.cg_laws.proofs.Steps.{sound-formed, hold-unopened}
use Rattle.cg_laws.proofs.guards.guards_outlast_others_steps.Goals as goal

pub returns : goal.returns
returns c = λ st user other subtree op whole. hold-unopened st user other subtree op (sound-formed st whole)
