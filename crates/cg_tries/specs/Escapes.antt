-- How an answer is found: nobody has to believe it.
-- Whether a user breaks a subtree by a list of operations, and the first of the tries by which they do.
use Rattle.std.specs.Prelude.{◌≡◌, []}
use Rattle.cg_cgroup.specs.Paths.{Names}
use Rattle.cg_model.specs.States.{State}
use Rattle.cg_model.specs.Verdicts.{broken}

-- Nothing is broken at the start.
abbrev pub IsUnbroken : State → Names → Type 0
IsUnbroken st subtree = broken st st st subtree ≡ []
