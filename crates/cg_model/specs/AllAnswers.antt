-- The answer for several users and several subtrees.
use Rattle.std.specs.Prelude.{ℕ, suc, List, [], ◌∷◌, ◌++◌, unwrap_or}
use Rattle.cg_cgroup.specs.Paths.{Names}
use Rattle.cg_cgroup.specs.Identity.{Identity}
use Rattle.cg_model.specs.States.{State}
use Rattle.cg_model.specs.Clauses.{first}
use Rattle.cg_model.specs.Answers.{answer}
use Rattle.cg_model.specs.declared.answer.Answer.{Answer}
use Rattle.cg_model.specs.declared.answer.Answer.TheVariants.{Contained, Escapes, Unsettled}
use Rattle.cg_model.specs.declared.answer.AllAnswer.{AllAnswer}
use Rattle.cg_model.specs.declared.answer.AllAnswer.TheVariants as all

-- a pair with its answer, unless it is contained
abbrev pub pair_unless_contained : ℕ → ℕ → Answer → List AllAnswer
pair_unless_contained user subtree Contained = []
pair_unless_contained user subtree (Escapes ops) = all.Pair user subtree (Escapes ops) ∷ []
pair_unless_contained user subtree (Unsettled failed) = all.Pair user subtree (Unsettled failed) ∷ []

-- those of one user with the subtrees from a place of the list on
abbrev pub pairs_of : State → ℕ → Identity → ℕ → List Names → List AllAnswer
pairs_of st place user from [] = []
pairs_of st place user from (subtree ∷ subtrees) =
    pair_unless_contained place from (answer st user subtree) ++ pairs_of st place user (suc from) subtrees

-- those of the users from a place of the list on
abbrev pub pairs_from : State → ℕ → List Identity → List Names → List AllAnswer
pairs_from st from [] subtrees = []
pairs_from st from (user ∷ users) subtrees = pairs_of st from user 0 subtrees ++ pairs_from st (suc from) users subtrees

-- Contained where every user is answered so with every subtree; else the first pair that isn't, by user and then subtree.
abbrev pub all_answers : State → List Identity → List Names → AllAnswer
all_answers st users subtrees = unwrap_or (first (pairs_from st 0 users subtrees)) all.Contained
