use Rattle.cg_laws.proofs.OperationLaws.{control-leaves}
use Rattle.cg_laws.proofs.guards.operations.control_leaves_limits.Goals as goal

pub returns : goal.returns
returns c = control-leaves
