use Rattle.cg_laws.proofs.OperationLaws.{rmdir-there, rmdir-leaves}
use Rattle.cg_laws.proofs.guards.operations.rmdir_leaves_the_subtree.Goals as goal

pub returns : goal.returns
returns c = record { there = rmdir-there; limits = rmdir-leaves }
