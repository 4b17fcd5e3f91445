use Rattle.std.proofs.Common.{ap, ◌∙◌}
use Rattle.toml.specs.Data.{array, table}
use Rattle.toml.specs.View.{items_of}
use Rattle.toml.proofs.Views.{view-Array}
use Rattle.cg_cgroup.proofs.PathOrder.{path_cmp_total}
use Rattle.cg_print.specs.Carried.{IsNamedRow}
use Rattle.cg_print.specs.Documents.{told_of, cgroup_table}
use Rattle.cg_print.proofs.Entries.{there, more, all_written}
use Rattle.cg_print.proofs.cgroups.cgroups_array.Goals as goal

pub cgroup_value-requires : goal.cgroup_value-requires
cgroup_value-requires g c =
    there path_cmp_total (g.H.Hierarchy.state c.args.tree.now).rows c.deref-path-items.result.now
    (c.deref-path-items.ensures.value ∙ c.in_ok-paths.ensures) c.loop-path.path-index c.path-item.result c.loop-path-test.true
    c.path-item.is

pub loop-path-preserved : goal.loop-path-preserved
loop-path-preserved g c =
    let st = g.H.Hierarchy.state c.args.tree.now in
    more path_cmp_total st.rows c.deref-path-items.result.now
    (c.deref-path-items.ensures.value ∙ c.in_ok-paths.ensures) c.loop-path.path-index c.path-item.result c.loop-path-test.true
    c.path-item.is (λ path row. table (cgroup_table c.args.vocabulary path row (told_of c.args.vocabulary st path)))
    (λ path row. IsNamedRow path row (told_of c.args.vocabulary st path)) c.loop-path.values.items c.push.new.self.items
    c.in_ok-cgroup_value.field-0 c.in_ok-push.ensures.items c.loop-path.invariant
    c.in_ok-cgroup_value.ensures.written c.in_ok-cgroup_value.ensures.named

pub returns : goal.returns
returns g c =
    let st = g.H.Hierarchy.state c.args.tree.now in
    let all =
    all_written st.rows c.deref-path-items.result.now
    (c.deref-path-items.ensures.value ∙ c.in_ok-paths.ensures) c.loop-path.path-index c.loop-path-test.false
    (λ path row. table (cgroup_table c.args.vocabulary path row (told_of c.args.vocabulary st path)))
    (λ path row. IsNamedRow path row (told_of c.args.vocabulary st path)) c.loop-path.values.items c.loop-path.invariant in
    record { written = view-Array c.loop-path.values ∙ ap (λ ds. array (items_of ds)) all.0; named = all.1 }
