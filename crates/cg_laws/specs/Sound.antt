-- What laws beside the theorems speak of: nobody has to believe it.
-- The part of well-formedness that containment stands on. Every step keeps it, whatever mode a chmod sets.
use Rattle.std.specs.Prelude.{◌≡◌, ℕ, Bool, true, is_some, None, Some}
use Rattle.cg_cgroup.specs.Files.{brought_by}
use Rattle.cg_cgroup.specs.Paths.{Names, parent}
use Rattle.cg_cgroup.specs.declared.other_file.OtherFile.{OtherFile}
use Rattle.cg_model.specs.States.{State, process_at, is_used, other_at, told_at}
use Rattle.cg_model.specs.WellFormed.{has_row}

-- whether a cgroup is there, with a limit file beyond `LimitFile` where a controller brings that
abbrev pub file_stands : State → Names → OtherFile → Bool
file_stands st path file = elim (brought_by file) [ None ↦ has_row st path | Some controller ↦ is_some (other_at st path controller) ]

pub record IsSound (st : State) : Type 0 where
  -- each cgroup but the root is a directory of another
  pub parents : (path : Names) → has_row st path ≡ true → has_row st (parent path) ≡ true
  -- it is told of files of such cgroups
  pub told : (path : Names) (file : OtherFile) → is_some (told_at st path file) ≡ true → file_stands st path file ≡ true
  -- the PID of a live process counts as used
  pub used : (pid : ℕ) → is_some (process_at st pid) ≡ true → is_used st pid ≡ true
