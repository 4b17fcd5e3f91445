use Rattle.cg_format.proofs.OneState.{paths_are_paths, pids_are_pids}
use Rattle.cg_format.proofs.ReadingLaws.{known_controllers}
use Rattle.cg_format.proofs.laws.states_are_named.Goals as goal

pub returns : goal.returns
returns c = record {
  paths = paths_are_paths;
  pids = pids_are_pids;
  controllers = known_controllers;
}
