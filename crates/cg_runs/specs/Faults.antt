-- How an answer is found: nobody has to believe it.
-- Why a replay doesn't start.
use Rattle.std.specs.Prelude.{◌≡◌, true, false, is_some}
use Rattle.std.specs.FinMap as map
use Rattle.cg_cgroup.specs.Paths.{Names, is_root}
use Rattle.cg_model.specs.States.{State}
use Rattle.cg_model.specs.WellFormed.{has_row}
use Rattle.cg_model.specs.declared.fault.CheckFault.{CheckFault}
use Rattle.cg_model.specs.declared.fault.CheckFault.TheVariants.{RootSubtree, NoSuchSubtree, NoMemory}

-- The first thing that is wrong with a subtree that is asked about; memory is wanted only where something is told of its limit files.
abbrev pub IsFaultOf : CheckFault → State → Names → Type 0
IsFaultOf RootSubtree st subtree = is_root subtree ≡ true
IsFaultOf NoSuchSubtree st subtree = (is_root subtree ≡ false) × (has_row st subtree ≡ false)
IsFaultOf NoMemory st subtree = (is_root subtree ≡ false) × (has_row st subtree ≡ true) × (is_some (map.get st.told subtree) ≡ true)
