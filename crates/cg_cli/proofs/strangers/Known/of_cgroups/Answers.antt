use Rattle.std.proofs.Common.{take, [], sym, subst}
use Rattle.std.specs.List.{flat_map}
use Rattle.cg_cli.specs.Known.{AreOfEntries}
use Rattle.cg_cli.specs.Strangers.{entries_of}
use Rattle.cg_cli.proofs.StrangerLaws.{flat_more}
use Rattle.cg_cli.proofs.strangers.Known.of_cgroups.Goals as goal

pub loop-cgroup-preserved : goal.loop-cgroup-preserved
loop-cgroup-preserved c =
    let rows = c.entries-cgroup-items.result.now in
    let row = c.loop-cgroup-item.result in
    subst (λ entries. AreOfEntries c.add_cgroup.new.self entries [])
    (sym (flat_more (λ one. entries_of one.1) rows c.loop-cgroup.cgroup-index row row c.loop-cgroup-test.true c.loop-cgroup-item.is))
    (c.in_ok-add_cgroup.ensures (flat_map (λ one. entries_of one.1) (take c.loop-cgroup.cgroup-index rows)) c.loop-cgroup.invariant)
