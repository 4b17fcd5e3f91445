use Rattle.theorems.proofs.MayLaws.{may_granted, may_refused, may_silent}
use Rattle.theorems.proofs.may.Goals as goal

pub returns : goal.returns
returns c = record {
  granted = may_granted;
  refused = λ st uid gids user number pid word to bar others of_user of_pid of_path.
      may_refused st uid gids user number pid word to of_user of_pid of_path bar others;
  fault = may_silent;
}
