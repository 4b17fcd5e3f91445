use Rattle.std.specs.Prelude.{Ok}
use Rattle.cg_laws.proofs.RunLaws.{contained-guarded}
use Rattle.machine_answers.proofs.GuardedLaws.{contained_as_named, guarded_by_status, contained_report}
use Rattle.theorems.proofs.one_user.Goals as goal

pub returns : goal.returns
returns c = record {
  states = contained-guarded;
  bytes = λ text st uid gids user word subtree. contained_as_named text uid gids word st user subtree;
  status = λ text st uid gids word of_text. guarded_by_status text uid gids word (Ok st) of_text;
  report = λ text st uid gids word of_text. contained_report text uid gids word (Ok st) of_text;
}
