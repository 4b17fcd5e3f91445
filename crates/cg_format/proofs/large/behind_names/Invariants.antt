use Rattle.std.proofs.Common.{◌≡◌, true, drop}
use Rattle.std.specs.Prelude.{fold}
use Rattle.cg_cgroup.specs.Files.{all_controllers}
use Rattle.cg_format.specs.TreeTexts.{past_name}
use Rattle.cg_format.proofs.large.behind_names.Given as goal

-- the names that are still to come
abbrev pub invariant-loop-controller : goal.invariant-loop-controller
invariant-loop-controller l =
    fold past_name (l.is_first, l.rest) (drop l.controller-index all_controllers)
    ≡ fold past_name (true, l.text) all_controllers
