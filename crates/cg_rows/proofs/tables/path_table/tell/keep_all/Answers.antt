use Rattle.std.proofs.Common.{cond, get_or}
use Rattle.cg_cgroup.specs.Paths.{Names, is_child}
use Rattle.cg_cgroup.specs.Told.{told_under}
use Rattle.cg_cgroup.specs.declared.told.ToldFiles.{ToldFiles}
use Rattle.cg_rows.proofs.Changed.{changed_one}
use Rattle.cg_rows.proofs.tables.path_table.tell.keep_all.Goals as goal

pub loop-entry-preserved : goal.loop-entry-preserved
loop-entry-preserved c =
    let f : Names × ToldFiles → Names × ToldFiles = λ e. (e.0, cond (is_child c.args.path.now e.0) (told_under c.args.enabled e.1) e.1) in
    changed_one f c.args.entries.now c.loop-entry.entries c.loop-entry.entry-index c.entry-item.result _ c.loop-entry.invariant
    c.loop-entry-test.true (λ i. ((get_or c.loop-entry.entries c.loop-entry.entry-index c.entry-item.result).0, c.keep_one.ensures i))
