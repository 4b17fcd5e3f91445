use Rattle.std.proofs.Common.{ap, ◌∙◌}
use Rattle.toml.specs.Data.{array, table}
use Rattle.toml.specs.View.{items_of}
use Rattle.toml.proofs.Views.{view-Array}
use Rattle.std.specs.Cmp.{nat_cmp_total}
use Rattle.cg_print.specs.Carried.{IsNamedProcess}
use Rattle.cg_print.specs.Documents.{process_table}
use Rattle.cg_print.proofs.Entries.{there, more, all_written}
use Rattle.cg_print.proofs.processes.processes_array.Goals as goal

pub process_value-requires : goal.process_value-requires
process_value-requires g c =
    there nat_cmp_total (g.H.Hierarchy.state c.args.tree.now).live c.deref-pid-items.result.now
    (c.deref-pid-items.ensures.value ∙ c.in_ok-pids.ensures) c.loop-pid.pid-index c.pid-item.result c.loop-pid-test.true
    c.pid-item.is

pub loop-pid-preserved : goal.loop-pid-preserved
loop-pid-preserved g c =
    more nat_cmp_total (g.H.Hierarchy.state c.args.tree.now).live c.deref-pid-items.result.now
    (c.deref-pid-items.ensures.value ∙ c.in_ok-pids.ensures) c.loop-pid.pid-index c.pid-item.result c.loop-pid-test.true
    c.pid-item.is (λ pid process. table (process_table pid process)) IsNamedProcess c.loop-pid.values.items c.push.new.self.items
    c.in_ok-process_value.field-0 c.in_ok-push.ensures.items c.loop-pid.invariant
    c.in_ok-process_value.ensures.written c.in_ok-process_value.ensures.named

pub returns : goal.returns
returns g c =
    let all =
    all_written (g.H.Hierarchy.state c.args.tree.now).live c.deref-pid-items.result.now
    (c.deref-pid-items.ensures.value ∙ c.in_ok-pids.ensures) c.loop-pid.pid-index c.loop-pid-test.false
    (λ pid process. table (process_table pid process)) IsNamedProcess c.loop-pid.values.items c.loop-pid.invariant in
    record { written = view-Array c.loop-pid.values ∙ ap (λ ds. array (items_of ds)) all.0; named = all.1 }
