use Rattle.cg_laws.proofs.OperationLaws.{move-crosses-nothing}
use Rattle.cg_laws.proofs.guards.operations.move_crosses_nothing.Goals as goal

pub returns : goal.returns
returns c = move-crosses-nothing
