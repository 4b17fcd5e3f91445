-- When a subtree is held over a run, and when it is contained.
use Rattle.std.specs.Prelude.{◌≡◌, List, map}
use Rattle.std.specs.List.{Contains, AllByRecursion}
use Rattle.cg_cgroup.specs.Paths.{Names}
use Rattle.cg_cgroup.specs.Identity.{Identity}
use Rattle.cg_model.specs.States.{State}
use Rattle.cg_model.specs.Steps.{Deed}
use Rattle.cg_model.specs.declared.operation.Op.{Op}
use Rattle.cg_model.specs.Verdicts.{verdict}
use Rattle.cg_model.specs.declared.verdict.Verdict.TheVariants.{Kept}

-- Nothing is broken of the subtree, neither at the start nor by any step.
abbrev pub IsHeld : State → List Deed → Names → Type 0
IsHeld st deeds subtree = verdict st deeds subtree ≡ Kept

-- a list of operations, all of one user
abbrev pub by_user : Identity → List Op → List Deed
by_user user ops = map (λ op. (user, op)) ops

-- Whatever the user does, refused or not, the subtree is held.
abbrev pub IsContained : State → Identity → Names → Type 0
IsContained st user subtree = (ops : List Op) → IsHeld st (by_user user ops) subtree

-- whoever acts is one of these users
abbrev pub AreBy : List Identity → List Deed → Type 0
AreBy users deeds = AllByRecursion (λ deed. Contains users deed.0) deeds
