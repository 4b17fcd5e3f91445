-- How an answer is found: nobody has to believe it.
-- A list while it is replayed.
use Rattle.std.specs.Prelude.{◌≡◌, List}
use Rattle.std.specs.List.{AllByRecursion}
use Rattle.cg_cgroup.specs.Paths.{Names}
use Rattle.cg_cgroup.specs.Files.{vocabulary_of}
use Rattle.cg_cgroup.specs.Identity.{Identity}
use Rattle.cg_model.specs.States.{State}
use Rattle.cg_model.specs.Held.{by_user}
use Rattle.cg_model.specs.Replays.{Progress}
use Rattle.cg_model.specs.declared.operation.Op.{Op}
use Rattle.cg_lines.specs.OperationLines.{HasLine}
use Rattle.cg_runs.specs.Replays.{IsRunOf}
use Rattle.cg_plans.specs.Breaking.{AreAllowed}

-- A replay has come to where a user's list leads to, of which nothing was barred.
pub record Follows (start : State) (user : Identity) (subtree : Names) (run : Progress) (ops : List Op) : Type 0 where
  pub of : run.subtree ≡ subtree
  pub follows : IsRunOf run start (by_user user ops)
  pub allowed : AreAllowed start user ops
  pub lines : AllByRecursion (HasLine (vocabulary_of start.controllers)) ops
