use Rattle.std.proofs.Common.{take, refl, rules}
use Rattle.std.proofs.lemmas.Fn.{always_returns_same}
use Rattle.cg_cgroup.specs.Paths.{inside}
use Rattle.cg_cgroup.proofs.PathOrder.{path_cmp_total}
use Rattle.cg_rows.proofs.Below.{IsStart, range_found, start_of_place, start_of_gap}
use Rattle.cg_rows.proofs.tables.path_table.range_below.Goals as goal
use Rattle.cg_rows.proofs.tables.path_table.range_below.Goals.{in-Ok, in-Err}

pub returns : goal.returns
returns g c =
    let p = take c.args.len c.args.path.now in
    let start : IsStart path_cmp_total p c.args.entries.now c.match-search_prefix.start =
    elim c.match-search_prefix.branch [
      | in-Ok w ↦ start_of_place p _ _ _ _ c.requires.sorted refl w.in-Ok.ensures w.start-is
      | in-Err w ↦ start_of_gap p _ _ _ _ refl w.in-Err.ensures w.start-is
    ] in
    range_found p _ _ _ c.requires.sorted start c.partition_point-count.ensures.bound
    (c.partition_point-count.ensures.partitioned (λ e. inside p e.0) (always_returns_same _ _ _ (λ a r f' k. search rules)))
