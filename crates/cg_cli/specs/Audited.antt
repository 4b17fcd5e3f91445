-- What is known of several users with a subtree, by their places: where check finds no list one may be planned, and those
-- against whom there is none are asked together.
use Rattle.std.specs.Prelude.{◌≡◌, ◌≢◌, ℕ, ◌<◌, Bool, true, false, not, List, [], ◌∷◌, length, get_or}
use Rattle.cg_cgroup.specs.Paths.{Names}
use Rattle.cg_cgroup.specs.Identity.{Identity}
use Rattle.cg_model.specs.States.{State}
use Rattle.cg_model.specs.Answers.{answer}
use Rattle.cg_model.specs.declared.answer.Answer.{Answer}
use Rattle.cg_model.specs.declared.answer.Answer.TheVariants.{Contained, Escapes, Unsettled}
use Rattle.cg_second.specs.Judged.{second_row}
use Rattle.cg_second.specs.SecondRow.{AreSettled}
use Rattle.cg_plans.specs.Breaking.{Breaks}
use Rattle.cg_cli.specs.FurtherPairs.{picked, not_listed}

abbrev pub has_list : Answer → Bool
has_list Contained = false
has_list (Escapes ops) = true
has_list (Unsettled failed) = false

-- the users against whom no list is known
abbrev pub without_list : (ℕ → Answer) → List Identity → List Identity
without_list found users = picked (λ place. not (has_list (found place))) 0 users

-- What is known of a user, from what check answers: a list where it has one; else a list that is planned and breaks the subtree,
-- or contained where the second row holds for all against whom no list is known, and else the guard that fails.
abbrev pub IsKnownFrom : State → Identity → Names → Bool → Answer → Answer → Type 0
IsKnownFrom st user subtree together Contained found = found ≡ Contained
IsKnownFrom st user subtree together (Escapes ops) found = found ≡ Escapes ops
IsKnownFrom st user subtree together (Unsettled failed) Contained = together ≡ true
IsKnownFrom st user subtree together (Unsettled failed) (Escapes ops) = Breaks st user subtree ops
IsKnownFrom st user subtree together (Unsettled failed) (Unsettled other) = (together ≡ false) × (other ≡ failed)

-- The second row is asked once, of all against whom no list is known.
abbrev pub AreKnown : State → List Identity → Names → (ℕ → Answer) → Type 0
AreKnown st users subtree found =
    (place : ℕ) (d : Identity) → place < length users
    → IsKnownFrom st (get_or users place d) subtree (second_row st (without_list found users) subtree)
    (answer st (get_or users place d) subtree) (found place)

-- Several subtrees, each for itself: what is found of a user with a subtree goes by both places.
abbrev pub AreKnownWithEach : State → List Identity → List Names → (ℕ → ℕ → Answer) → Type 0
AreKnownWithEach st users subtrees found =
    (place : ℕ) (d : Names) → place < length subtrees → AreKnown st users (get_or subtrees place d) (λ user. found user place)

-- Each subtree is held against those with whom it isn't listed, all of them together, where there are such.
abbrev pub UnlistedAreSettled : State → List Identity → List Names → (ℕ → ℕ → Answer) → Type 0
UnlistedAreSettled st users subtrees found =
    (place : ℕ) (d : Names) → place < length subtrees → not_listed (λ user. found user place) users ≢ []
    → AreSettled st (not_listed (λ user. found user place) users) (get_or subtrees place d ∷ [])
