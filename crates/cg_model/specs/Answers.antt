-- The answer for a user and a subtree, and for several of both.
use Rattle.std.specs.Prelude.{List, [], ◌∷◌, Option, Some, None}
use Rattle.cg_cgroup.specs.Paths.{Names}
use Rattle.cg_cgroup.specs.Identity.{Identity}
use Rattle.cg_model.specs.States.{State}
use Rattle.cg_model.specs.declared.operation.Op.{Op}
use Rattle.cg_model.specs.Guards.{failures}
use Rattle.cg_model.specs.declared.guard.Failed.{Failed}
use Rattle.cg_model.specs.Escapes.{first_escape}
use Rattle.cg_model.specs.declared.answer.Answer.{Answer}
use Rattle.cg_model.specs.declared.answer.Answer.TheVariants.{Contained, Escapes, Unsettled}

abbrev pub answer_from : List Failed → Option (List Op) → Answer
answer_from [] escape = Contained
answer_from (failed ∷ others) (Some ops) = Escapes ops
answer_from (failed ∷ others) None = Unsettled failed

-- Contained where no guard fails; else the first of the tries that breaks something; else the first guard that fails.
abbrev pub answer : State → Identity → Names → Answer
answer st user subtree = answer_from (failures st user subtree) (first_escape st user subtree)
