-- How an answer is found: nobody has to believe it.
-- What was found of some users or subtrees, of each that isn't contained by its place in their list.
use Rattle.std.specs.Prelude.{◌≡◌, ℕ, ◌<◌, Bool, true, false, ◌&&◌, nat_eq, cond, List, [], ◌∷◌, length, get_or}
use Rattle.std.specs.List.{AllByRecursion, list_any}
use Rattle.cg_cgroup.specs.Paths.{Names}
use Rattle.cg_cgroup.specs.Identity.{Identity}
use Rattle.cg_model.specs.States.{State}
use Rattle.cg_model.specs.Answers.{answer}
use Rattle.cg_model.specs.Listed.{is_contained}
use Rattle.cg_model.specs.declared.answer.Answer.{Answer}
use Rattle.cg_model.specs.declared.answer.Answer.TheVariants.{Contained, Escapes, Unsettled}
use Rattle.cg_plans.specs.Breaking.{Breaks}
use Rattle.cg_cli.specs.declared.answers.audited.Found.{Found}
use Rattle.cg_cli.specs.Audited.{has_list}

-- what was found at a place
abbrev pub found_at : List Found → ℕ → Answer
found_at [] place = Contained
found_at (found ∷ others) place = cond (nat_eq found.place place) found.answer (found_at others place)

-- Each has a place of its own, and none is contained.
abbrev pub AreApart : List Found → Type 0
AreApart [] = Unit {0}
AreApart (found ∷ others) = (found_at others found.place ≡ Contained) × (is_contained found.answer ≡ false) × AreApart others

-- each is at one of so many first places
abbrev pub AreBefore : ℕ → List Found → Type 0
AreBefore count found = AllByRecursion (λ (each : Found). each.place < count) found

-- one at a place, unless it is contained
abbrev pub found_one : ℕ → Answer → List Found
found_one place Contained = []
found_one place (Escapes ops) = record { place = place; answer = Escapes ops } ∷ []
found_one place (Unsettled failed) = record { place = place; answer = Unsettled failed } ∷ []

-- What is found of a user alone: what check answers, or a list that is planned where that is unsettled.
abbrev pub IsAlone : State → Identity → Names → Answer → Answer → Type 0
IsAlone st user subtree Contained found = found ≡ Contained
IsAlone st user subtree (Escapes ops) found = found ≡ Escapes ops
IsAlone st user subtree (Unsettled failed) Contained = ⊥
IsAlone st user subtree (Unsettled failed) (Escapes ops) = Breaks st user subtree ops
IsAlone st user subtree (Unsettled failed) (Unsettled other) = other ≡ failed

-- What is found of so many first users, each alone.
pub record AreAlone (st : State) (users : List Identity) (subtree : Names) (count : ℕ) (found : List Found) : Type 0 where
  pub apart : AreApart found
  pub before : AreBefore count found
  pub alone : (place : ℕ) (d : Identity) → place < count → place < length users
      → IsAlone st (get_or users place d) subtree (answer st (get_or users place d) subtree) (found_at found place)

abbrev pub is_unsettled : Answer → Bool
is_unsettled Contained = false
is_unsettled (Escapes ops) = false
is_unsettled (Unsettled failed) = true

-- a list is known at a place
abbrev pub is_listed_at : List Found → ℕ → Bool
is_listed_at found place = list_any (λ (each : Found). nat_eq each.place place && has_list each.answer) found
