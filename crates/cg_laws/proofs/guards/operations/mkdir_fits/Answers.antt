use Rattle.cg_laws.proofs.OperationLaws.{mkdir-fits}
use Rattle.cg_laws.proofs.guards.operations.mkdir_fits.Goals as goal

pub returns : goal.returns
returns c = record {
  descendants = λ st user subtree path there descendants depth. (mkdir-fits st user subtree path there descendants depth).0;
  depth = λ st user subtree path there descendants depth. (mkdir-fits st user subtree path there descendants depth).1;
}
