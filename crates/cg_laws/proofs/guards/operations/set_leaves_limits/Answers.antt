use Rattle.cg_laws.proofs.OperationLaws.{set-leaves, set_other-leaves}
use Rattle.cg_laws.proofs.guards.operations.set_leaves_limits.Goals as goal

pub returns : goal.returns
returns c = record { set = set-leaves; set_other = set_other-leaves }
