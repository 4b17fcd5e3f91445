use Rattle.cg_laws.proofs.OperationLaws.{fork-crosses-nothing, exit-crosses-nothing}
use Rattle.cg_laws.proofs.guards.operations.births_and_ends_cross_nothing.Goals as goal

pub returns : goal.returns
returns c = record { fork = fork-crosses-nothing; exit = exit-crosses-nothing }
