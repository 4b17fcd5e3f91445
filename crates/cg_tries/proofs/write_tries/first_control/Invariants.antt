use Rattle.std.proofs.Common.{◌≡◌, drop}
use Rattle.cg_cgroup.specs.Files.{all_controllers}
use Rattle.cg_tries.specs.Finding.{first_given, told_control_of}
use Rattle.cg_tries.proofs.write_tries.first_control.Given as goal

-- the first is among those that are still to come
abbrev pub invariant-loop-controller : goal.invariant-loop-controller
invariant-loop-controller g l =
    let change = told_control_of (g.H.Hierarchy.state l.asker.tree.now) l.asker.user.now l.asker.subtree.now in
    first_given change (drop l.controller-index all_controllers) ≡ first_given change all_controllers
