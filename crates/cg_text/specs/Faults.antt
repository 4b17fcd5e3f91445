-- How it is read and written: nobody has to believe it.
-- The faults of a tree text, and what a call that may run out of memory answers.
use Rattle.std.specs.Prelude.{◌≡◌, ◌≢◌, Option, Some, None, Result, Ok, Err}
use Rattle.cg_format.specs.declared.fault.TreeFault.{TreeFault}
use Rattle.cg_format.specs.declared.fault.TreeFault.TheVariants.{NoMemory}

-- The call gives the value that is expected, or the fault that is expected, unless memory ran out.
abbrev pub Reads : {X Y : Type 0} → (X → Y) → Result X TreeFault → Result Y TreeFault → Type 0
Reads view (Ok x) expected = expected ≡ Ok (view x)
Reads view (Err fault) expected = fault ≢ NoMemory → expected ≡ Err fault

-- The call finds no fault and gives a value of which P holds, or it gives the fault, unless memory ran out.
abbrev pub Passes : {X : Type 0} → (X → Type 0) → Option TreeFault → Result X TreeFault → Type 0
Passes P fault (Ok x) = (fault ≡ None) × P x
Passes P fault (Err found) = found ≢ NoMemory → fault ≡ Some found
