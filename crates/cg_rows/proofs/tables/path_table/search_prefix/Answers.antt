use Rattle.std.proofs.Common.{rules, take}
use Rattle.cg_cgroup.specs.Paths.{path_cmp}
use Rattle.cg_cgroup.proofs.PathOrder.{path_cmp_total}
use Rattle.std.proofs.lemmas.Fn.{always_returns_same}
use Rattle.cg_rows.proofs.Sorted.{sought}
use Rattle.cg_rows.proofs.tables.path_table.search_prefix.Goals as goal

pub returns : goal.returns
returns g c =
    sought path_cmp_total _ _ _ c.requires.sorted c.binary_search_by.ensures.bound
    (c.binary_search_by.ensures.position (λ e. path_cmp e.0 (take c.args.len c.args.path.now))
    (always_returns_same _ _ _ (λ a r f' k. search rules)))
