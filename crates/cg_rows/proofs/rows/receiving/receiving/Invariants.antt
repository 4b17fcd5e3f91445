use Rattle.std.proofs.Common.{◌≡◌, ◌++◌, List, drop, map, filter}
use Rattle.cg_cgroup.specs.Paths.{Names}
use Rattle.cg_cgroup.specs.declared.cgroup.Cgroup.{Cgroup}
use Rattle.cg_model.specs.Receiving.{row_receives}
use Rattle.cg_rows.proofs.rows.receiving.receiving.Given as goal

-- what was found, and what is still to come
abbrev pub invariant-loop-entry : goal.invariant-loop-entry
invariant-loop-entry l =
    let those : List (Names × Cgroup) → List Names = λ es. map (λ e. e.0) (filter (λ e. row_receives l.user e.0 e.1) es) in
    l.found.items ++ those (drop l.entry-index l.entries) ≡ those l.entries
