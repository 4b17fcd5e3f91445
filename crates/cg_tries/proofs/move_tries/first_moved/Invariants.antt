use Rattle.std.proofs.Common.{◌≡◌, drop, option_copied}
use Rattle.cg_tries.specs.Finding.{first_given, move_of}
use Rattle.cg_tries.proofs.move_tries.first_moved.Given as goal

-- the first is among those that are still to come
abbrev pub invariant-loop-pid : goal.invariant-loop-pid
invariant-loop-pid g l =
    let moves =
    move_of (g.H.Hierarchy.state l.asker.tree.now) l.asker.user.now l.asker.subtree.now (option_copied l.out) (option_copied l.into) in
    first_given moves (drop l.pid-index l.pids) ≡ first_given moves l.pids
