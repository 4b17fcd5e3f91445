use Rattle.std.proofs.Common.{[], ◌∷◌}
use Rattle.cg_cli.proofs.StrangerLaws.{added_both, on_ok}
use Rattle.cg_cli.proofs.strangers.Known.add_cgroup.Goals as goal

pub returns : goal.returns
returns c =
    let cgroup = c.args.cgroup.now in
    on_ok c.add_files.result c.add_files.ensures (λ files.
    added_both c.args.self.now c.add.new.self c.add_files.new.self (cgroup.dir ∷ []) _ c.in_ok-add.ensures
    (added_both c.add.new.self c.add-2.new.self c.add_files.new.self (cgroup.procs ∷ []) _ c.in_ok-add-2.ensures
    (added_both c.add-2.new.self c.add-3.new.self c.add_files.new.self (cgroup.subtree_control ∷ []) _ c.in_ok-add-3.ensures files)))
