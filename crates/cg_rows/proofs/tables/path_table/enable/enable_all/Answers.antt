use Rattle.std.proofs.Common.{get_or}
use Rattle.cg_cgroup.specs.Paths.{Names}
use Rattle.cg_model.specs.States.{enabling}
use Rattle.cg_cgroup.specs.declared.cgroup.Cgroup.{Cgroup}
use Rattle.cg_rows.proofs.Changed.{changed_one}
use Rattle.cg_rows.proofs.tables.path_table.enable.enable_all.Goals as goal

pub loop-entry-preserved : goal.loop-entry-preserved
loop-entry-preserved c =
    let f : Names × Cgroup → Names × Cgroup = λ e. (e.0, enabling c.args.path.now c.args.enabled c.args.user.now e.0 e.1) in
    changed_one f c.args.entries.now c.loop-entry.entries c.loop-entry.entry-index c.entry-item.result _ c.loop-entry.invariant
    c.loop-entry-test.true (λ i. ((get_or c.loop-entry.entries c.loop-entry.entry-index c.entry-item.result).0, c.enable_one.ensures i))
