-- How an answer is found: nobody has to believe it.
-- The first pair of a user and a subtree for which a guard fails, by its places.
use Rattle.std.specs.Prelude.{◌≡◌, ℕ, ◌<◌, List, length, get_or, Option, Some, None}
use Rattle.cg_cgroup.specs.Paths.{Names}
use Rattle.cg_cgroup.specs.Identity.{Identity}
use Rattle.cg_model.specs.States.{State}
use Rattle.cg_model.specs.Clauses.{first}
use Rattle.cg_model.specs.Answers.{answer}
use Rattle.cg_model.specs.AllAnswers.{pairs_from}
use Rattle.cg_model.specs.declared.answer.AllAnswer.TheVariants.{Pair}

-- The pair of these places is the first that isn't contained; with no places, each is.
abbrev pub IsFirstUnguarded : State → List Identity → List Names → Option (ℕ × ℕ) → Type 0
IsFirstUnguarded st users subtrees None = first (pairs_from st 0 users subtrees) ≡ None
IsFirstUnguarded st users subtrees (Some at) =
    (at.0 < length users) × (at.1 < length subtrees)
    × ((user : Identity) (subtree : Names) → first (pairs_from st 0 users subtrees) ≡ Some (Pair at.0 at.1 (answer st (get_or users at.0 user) (get_or subtrees at.1 subtree))))
