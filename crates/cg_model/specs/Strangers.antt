-- Users whose guards hold, and all the others.
use Rattle.std.specs.Prelude.{◌≡◌, ℕ, suc, List, [], ◌∷◌, Some, slice_get, true}
use Rattle.std.specs.List.{Contains}
use Rattle.cg_cgroup.specs.Paths.{Names}
use Rattle.cg_cgroup.specs.Identity.{Identity}
use Rattle.cg_model.specs.States.{State}
use Rattle.cg_model.specs.Steps.{after, Deed}
use Rattle.cg_model.specs.Guards.{GuardsHold, sets_guarded_mode}
use Rattle.cg_model.specs.Bars.{bars}
use Rattle.cg_model.specs.declared.operation.Op.{Op}

-- The operation is a chmod of an entry on which a guard of the subtree stands, and nothing bars it.
abbrev pub OpensGuarded : State → Identity → Op → Names → Type 0
OpensGuarded st user op subtree = (bars st user op ≡ []) × (sets_guarded_mode subtree op ≡ true)

-- The guards of a subtree hold for each of these users.
abbrev pub GuardsHoldForAll : State → List Identity → Names → Type 0
GuardsHoldForAll st users subtree = (user : Identity) → Contains users user → GuardsHold st user subtree

-- Whoever, over a run, carries out a chmod of an entry on which a guard of the subtree stands is one of these users.
abbrev pub OnlyTheseOpen : List Identity → State → List Deed → Names → Type 0
OnlyTheseOpen users st [] subtree = Unit {0}
OnlyTheseOpen users st (deed ∷ deeds) subtree =
    (OpensGuarded st deed.0 deed.1 subtree → Contains users deed.0)
    × OnlyTheseOpen users (after st deed.0 deed.1) deeds subtree

-- The deed that makes up so many is there, counted from 1, and its user isn't one of these.
abbrev pub IsOfStranger : List Identity → List Deed → ℕ → Type 0
IsOfStranger users deeds steps =
    (before : ℕ) × (deed : Deed) × (steps ≡ suc before) × (slice_get deeds before ≡ Some deed) × ¬ (Contains users deed.0)
