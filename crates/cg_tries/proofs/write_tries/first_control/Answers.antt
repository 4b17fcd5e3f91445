use Rattle.std.proofs.Common.{sym, ◌∙◌}
use Rattle.cg_cgroup.specs.Files.{all_controllers}
use Rattle.cg_cgroup.specs.declared.files.Controller.TheVariants.{Cpuset}
use Rattle.cg_tries.specs.Finding.{told_control_of}
use Rattle.cg_tries.proofs.Walks.{given_past}
use Rattle.cg_tries.proofs.write_tries.first_control.Goals as goal

pub loop-controller-preserved : goal.loop-controller-preserved
loop-controller-preserved g c =
    given_past (told_control_of (g.H.Hierarchy.state c.args.asker.now.tree.now) c.args.asker.now.user.now c.args.asker.now.subtree.now)
    all_controllers c.loop-controller.controller-index Cpuset c.loop-controller-test.true (sym c.in_ok-found.ensures ∙ c.in_default.is)
    ∙ c.loop-controller.invariant
