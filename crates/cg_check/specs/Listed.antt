-- How an answer is found: nobody has to believe it.
-- All pairs of a user and a subtree that aren't contained.
use Rattle.std.specs.Prelude.{Bool, List, [], ◌∷◌, slice_get}
use Rattle.std.specs.List.{list_all}
use Rattle.cg_cgroup.specs.Paths.{Names}
use Rattle.cg_cgroup.specs.Identity.{Identity}
use Rattle.cg_model.specs.States.{State}
use Rattle.cg_model.specs.Clauses.{present}
use Rattle.cg_model.specs.Guards.{is_guarded}
use Rattle.cg_model.specs.declared.answer.AllAnswer.{AllAnswer}
use Rattle.cg_model.specs.declared.answer.AllAnswer.TheVariants as all
use Rattle.cg_model.specs.Listed.{Listed}

-- a pair that is named by its places, with the user and the subtree that stand there
abbrev pub listed_at : List Identity → List Names → AllAnswer → List Listed
listed_at users subtrees all.Contained = []
listed_at users subtrees (all.Pair user subtree found) =
    present (slice_get users user) (λ who. present (slice_get subtrees subtree) (λ path. record { user = who; subtree = path; found = found } ∷ []))

-- no guard of any of these subtrees fails for the user
abbrev pub is_guarded_of_all : State → List Names → Identity → Bool
is_guarded_of_all st subtrees user = list_all (λ subtree. is_guarded st subtree user) subtrees
