use Rattle.std.proofs.Common.{◌≡◌, length}
use Rattle.cg_tries.specs.Finding.{first_probe_path}
use Rattle.cg_tries.proofs.probe_tries.first_probe_path.Given as goal

-- the first is at those that are still to come
abbrev pub invariant-loop-len : goal.invariant-loop-len
invariant-loop-len g l =
    first_probe_path (g.H.Hierarchy.state l.asker.tree.now) l.asker.user.now l.asker.subtree.now l.len
    ≡ first_probe_path (g.H.Hierarchy.state l.asker.tree.now) l.asker.user.now l.asker.subtree.now (length l.asker.subtree.now)
