use Rattle.std.proofs.Common.{◌≡◌, ◌++◌, cond, take, drop, map}
use Rattle.cg_cgroup.specs.Paths.{is_child}
use Rattle.cg_cgroup.specs.Told.{told_under}
use Rattle.cg_rows.proofs.tables.path_table.tell.keep_all.Given as goal

abbrev pub invariant-loop-entry : goal.invariant-loop-entry
invariant-loop-entry l =
    l.entries ≡ map (λ e. (e.0, cond (is_child l.path e.0) (told_under l.enabled e.1) e.1)) (take l.entry-index l.initial.entries)
    ++ drop l.entry-index l.initial.entries
