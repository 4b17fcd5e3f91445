-- The edge of a subtree, and which processes cross it between two states.
use Rattle.std.specs.Prelude.{ℕ, Bool, false, not, cond, List, filter, Option, Some}
use Rattle.cg_cgroup.specs.Paths.{Names, inside}
use Rattle.cg_model.specs.States.{State, place_at, pids_of}

-- a process that is live before and after, and inside on one side alone
abbrev pub is_crossed : Names → Option Names → Option Names → Bool
is_crossed subtree (Some before) (Some later) = cond (inside subtree before) (not (inside subtree later)) (inside subtree later)
is_crossed subtree before later = false

-- Delegation Containment: the processes that cross the edge of a subtree between two states, rising.
abbrev pub crossing : State → State → Names → List ℕ
crossing st new subtree = filter (λ pid. is_crossed subtree (place_at st pid) (place_at new pid)) (pids_of st)
