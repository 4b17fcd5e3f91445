use Rattle.theorems.proofs.ReplayedLaws.{replay_none, replay_one_more, replay_fault, replay_watched}
use Rattle.theorems.proofs.replay.Goals as goal

pub returns : goal.returns
returns c = record {
  none = replay_none;
  one_more = λ vocabulary st uid gids user ops op of_user. replay_one_more vocabulary st uid gids user of_user ops op;
  fault = λ vocabulary st uid gids user ops line rest of_user. replay_fault vocabulary st uid gids user of_user ops line rest;
  watched = λ vocabulary st uid gids user word subtree ops of_user. replay_watched vocabulary st uid gids user of_user word subtree ops;
}
