-- How an answer is found: nobody has to believe it.
-- What is listed of each of some users: a row for each, with what was found by the places of subtrees.
use Rattle.std.specs.Prelude.{◌≡◌, ℕ, zero, suc, ◌<◌, List, [], ◌∷◌, ◌++◌, length, get_or, slice_set}
use Rattle.cg_cgroup.specs.Paths.{Names}
use Rattle.cg_cgroup.specs.Identity.{Identity}
use Rattle.cg_model.specs.States.{State}
use Rattle.cg_model.specs.declared.answer.Answer.{Answer}
use Rattle.cg_cli.specs.declared.answers.audited.Found.{Found}
use Rattle.cg_cli.specs.Audited.{AreKnownWithEach}
use Rattle.cg_cli.specs.FoundPlaces.{found_one}

-- one behind the others in the row of a place
abbrev pub with_one : ℕ → Found → List (List Found) → List (List Found)
with_one place found rows = slice_set rows place (get_or rows place [] ++ found ∷ [])

-- what was found of some users with a subtree, in_rows in the users' rows at its place
abbrev pub in_rows : ℕ → List Found → List (List Found) → List (List Found)
in_rows subtree [] rows = rows
in_rows subtree (found ∷ others) rows =
    in_rows subtree others (with_one found.place (record { place = subtree; answer = found.answer }) rows)

-- what was found at so many first places
abbrev pub row_of : (ℕ → Answer) → ℕ → List Found
row_of found zero = []
row_of found (suc count) = row_of found count ++ found_one count (found count)

-- a row for each of so many users, as far as so many subtrees
pub record AreRows (users count : ℕ) (found : ℕ → ℕ → Answer) (rows : List (List Found)) : Type 0 where
  pub all : length rows ≡ users
  pub each : (user : ℕ) (d : List Found) → user < users → get_or rows user d ≡ row_of (found user) count

-- the rows of what is known of several users with several subtrees
pub record AreListed (st : State) (users : List Identity) (subtrees : List Names) (rows : List (List Found)) : Type 0 where
  pub found : ℕ → ℕ → Answer
  pub known : AreKnownWithEach st users subtrees found
  pub as_rows : AreRows (length users) (length subtrees) found rows
