use Rattle.toml.specs.Data.{table}
use Rattle.cg_print.specs.Carried.{IsNamedRow}
use Rattle.cg_print.specs.Documents.{told_of, cgroup_table}
use Rattle.cg_print.proofs.Entries.{AreWritten}
use Rattle.cg_print.proofs.cgroups.cgroups_array.Given as goal

abbrev pub invariant-loop-path : goal.invariant-loop-path
invariant-loop-path g l =
    let st = g.H.Hierarchy.state l.tree in
    AreWritten st.rows (λ path row. table (cgroup_table l.vocabulary path row (told_of l.vocabulary st path)))
    (λ path row. IsNamedRow path row (told_of l.vocabulary st path)) l.path-index l.values.items
