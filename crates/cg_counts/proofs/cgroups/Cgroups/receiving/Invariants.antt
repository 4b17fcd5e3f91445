use Rattle.std.proofs.Common.{◌≡◌, ◌++◌, drop, filter}
use Rattle.cg_model.specs.Receiving.{receives}
use Rattle.cg_counts.specs.Kept.{tree_of}
use Rattle.cg_counts.proofs.cgroups.Cgroups.receiving.Given as goal

-- what was found, and what is still to come
abbrev pub invariant-loop-path : goal.invariant-loop-path
invariant-loop-path l =
    l.found.items ++ filter (receives (tree_of l.self) l.user) (drop l.path-index l.paths)
    ≡ filter (receives (tree_of l.self) l.user) l.paths
