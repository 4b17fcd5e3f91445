-- The same of several users, and of others among them.
use Rattle.std.specs.Prelude.{◌⊎◌, List, [], ◌∷◌}
use Rattle.std.specs.List.{AllByRecursion, Contains}
use Rattle.cg_cgroup.specs.Paths.{Names}
use Rattle.cg_cgroup.specs.Identity.{Identity}
use Rattle.machine.specs.Machines.{Machine, Act, step, Stands, EdgeHolds, IsClosed, IsGuarded}

-- An act, and whose it is.
abbrev pub Turn : Type 0
Turn = Identity × Act

abbrev pub run_of_all : Machine → List Turn → Machine
run_of_all machine [] = machine
run_of_all machine (turn ∷ turns) = run_of_all (step machine turn.0 turn.1) turns

-- Whoever acts is one of these users.
abbrev pub AreTurnsOf : List Identity → List Turn → Type 0
AreTurnsOf users turns = AllByRecursion (λ turn. Contains users turn.0) turns

-- Whatever acts these users make, in whatever order, the subtree stands then, and no process crosses its edge by the next.
abbrev pub IsContainedAgainstAll : Machine → List Identity → Names → Type 0
IsContainedAgainstAll machine users subtree = (turns : List Turn) (user : Identity) (act : Act)
    → AreTurnsOf users turns → Contains users user
    → Stands machine (run_of_all machine turns) subtree
    × EdgeHolds (run_of_all machine turns) (step (run_of_all machine turns) user act) subtree

abbrev pub IsGuardedAgainstAll : Machine → List Identity → Names → Type 0
IsGuardedAgainstAll machine users subtree = (user : Identity) → Contains users user → IsGuarded machine user subtree

-- No act of a run breaks the subtree: it stands after each, and no process crosses its edge by it.
abbrev pub StandsThroughout : Machine → Machine → List Turn → Names → Type 0
StandsThroughout start machine [] subtree = Unit {0}
StandsThroughout start machine (turn ∷ turns) subtree =
    Stands start (step machine turn.0 turn.1) subtree
    × EdgeHolds machine (step machine turn.0 turn.1) subtree
    × StandsThroughout start (step machine turn.0 turn.1) turns subtree

-- Each act of a run is of one of these users, or leaves what is guarded out of the reach of all of them.
abbrev pub OthersLeaveClosed : List Identity → Machine → List Turn → Names → Type 0
OthersLeaveClosed users machine [] subtree = Unit {0}
OthersLeaveClosed users machine (turn ∷ turns) subtree =
    (Contains users turn.0 ⊎ ((user : Identity) → Contains users user → IsClosed (step machine turn.0 turn.1) user subtree))
    × OthersLeaveClosed users (step machine turn.0 turn.1) turns subtree
