use Rattle.std.proofs.Common.{◌≡◌, false, take}
use Rattle.std.specs.List.{list_any}
use Rattle.cg_cgroup.specs.Paths.{same_path}
use Rattle.cg_second.proofs.control.stays.Given as goal

-- it isn't among those that were passed
abbrev pub invariant-loop-at : goal.invariant-loop-at
invariant-loop-at g l = list_any (same_path l.path) (take l.at l.survey.paths.items) ≡ false
