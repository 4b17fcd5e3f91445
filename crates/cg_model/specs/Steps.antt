-- A step is what follows an operation, barred or not; a run is a step for each pair of a user and an operation.
use Rattle.std.specs.Prelude.{◌≤◌, List, [], ◌∷◌}
use Rattle.cg_cgroup.specs.Identity.{Identity}
use Rattle.cg_model.specs.States.{State}
use Rattle.cg_model.specs.Bars.{bars}
use Rattle.cg_model.specs.Next.{next}
use Rattle.cg_model.specs.declared.operation.Op.{Op}
use Rattle.cg_model.specs.declared.operation.Op.TheVariants.{Chmod}

abbrev pub after : State → Identity → Op → State
after st user op = elim (bars st user op) [ [] ↦ next st user op | bar ∷ others ↦ st ]

-- Who does what.
abbrev pub Deed : Type 0
Deed = Identity × Op

abbrev pub after_all : State → List Deed → State
after_all st [] = st
after_all st (deed ∷ deeds) = after_all (after st deed.0 deed.1) deeds

-- Own: the mode of a chmod is 0 to 0o777.
abbrev pub HasMode : Op → Type 0
HasMode (Chmod at name mode) = mode ≤ 511
HasMode op = Unit {0}

abbrev pub HaveModes : List Deed → Type 0
HaveModes [] = Unit {0}
HaveModes (deed ∷ deeds) = HasMode deed.1 × HaveModes deeds
