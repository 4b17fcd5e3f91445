-- What laws beside the theorems speak of: nobody has to believe it.
-- What the laws of a step speak of.
use Rattle.std.specs.Prelude.{◌≡◌, true, List, []}
use Rattle.std.specs.List.{All, flat_map}
use Rattle.cg_cgroup.specs.Paths.{Names}
use Rattle.cg_cgroup.specs.Identity.{Identity}
use Rattle.cg_model.specs.States.{State}
use Rattle.cg_model.specs.WellFormed.{has_row}
use Rattle.cg_model.specs.Limits.{limits, fits_descendants, fits_depth}
use Rattle.cg_model.specs.Edge.{crossing}
use Rattle.cg_model.specs.Guards.{Guarded, guarded_entries, guarded_entry, entry_failures, GuardsHold}

-- The user reaches none of these entries: no guard on one of them fails.
abbrev pub AreUnreached : State → Identity → Names → List Guarded → Type 0
AreUnreached st user subtree entries = flat_map (entry_failures st user subtree) entries ≡ []

-- Each entry on which a guard of the subtree stands is there as it was, or isn't as it wasn't: with its owner, group and mode.
abbrev pub AreUntouched : State → State → Names → Type 0
AreUntouched st new subtree = All (λ guarded. guarded_entry new subtree guarded ≡ guarded_entry st subtree guarded) (guarded_entries subtree)

-- What a step leaves of a subtree whose guards hold for the user who made it.
pub record IsKept (st new : State) (user : Identity) (subtree : Names) : Type 0 where
  -- it is there, with the limits that it had
  pub there : has_row new subtree ≡ true
  pub limits : limits new subtree ≡ limits st subtree
  -- no process crossed its edge
  pub edge : crossing st new subtree ≡ []
  -- it is within its own limits
  pub descendants : fits_descendants new subtree ≡ true
  pub depth : fits_depth new subtree ≡ true
  -- and the guards hold again
  pub guards : GuardsHold new user subtree
