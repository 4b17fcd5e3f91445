use Rattle.cg_laws.proofs.OperationLaws.{chmod-opens}
use Rattle.cg_laws.proofs.guards.operations.chmod_opens_nothing.Goals as goal

pub returns : goal.returns
returns c = chmod-opens
