use Rattle.cg_guards.proofs.OutOfReach.{none_covered}
use Rattle.cg_check.proofs.check_all.Goals as goal

pub check_all_by-requires : goal.check_all_by-requires
check_all_by-requires g c = record { covered = none_covered _ }
