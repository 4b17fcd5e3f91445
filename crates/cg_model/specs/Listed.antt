-- All pairs of a user and a subtree that aren't contained.
use Rattle.std.specs.Prelude.{Bool, true, false, List, [], ◌∷◌}
use Rattle.std.specs.List.{flat_map, filter}
use Rattle.cg_cgroup.specs.Paths.{Names}
use Rattle.cg_cgroup.specs.Identity.{Identity}
use Rattle.cg_model.specs.States.{State}
use Rattle.cg_model.specs.Answers.{answer}
use Rattle.cg_model.specs.declared.answer.Answer.{Answer}
use Rattle.cg_model.specs.declared.answer.Answer.TheVariants.{Contained, Escapes, Unsettled}

-- A pair that isn't contained, and its answer.
pub record Listed : Type 0 where
  pub user : Identity
  pub subtree : Names
  pub found : Answer

abbrev pub listed_unless_contained : Identity → Names → Answer → List Listed
listed_unless_contained user subtree Contained = []
listed_unless_contained user subtree (Escapes ops) = record { user = user; subtree = subtree; found = Escapes ops } ∷ []
listed_unless_contained user subtree (Unsettled failed) = record { user = user; subtree = subtree; found = Unsettled failed } ∷ []

-- those of one user, in the order of the subtrees
abbrev pub listed_of : State → List Names → Identity → List Listed
listed_of st subtrees user = flat_map (λ subtree. listed_unless_contained user subtree (answer st user subtree)) subtrees

-- By user and then subtree.
abbrev pub listed : State → List Identity → List Names → List Listed
listed st users subtrees = flat_map (listed_of st subtrees) users

abbrev pub is_contained : Answer → Bool
is_contained Contained = true
is_contained (Escapes ops) = false
is_contained (Unsettled failed) = false

-- The users of a list with whom a subtree isn't listed.
abbrev pub unlisted : State → List Identity → Names → List Identity
unlisted st users subtree = filter (λ user. is_contained (answer st user subtree)) users
