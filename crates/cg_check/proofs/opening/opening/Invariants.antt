use Rattle.std.proofs.Common.{◌≡◌, ◌++◌}
use Rattle.cg_model.specs.Tries.{opening}
use Rattle.cg_check.proofs.Escaping.{opening_from}
use Rattle.cg_check.proofs.opening.opening.Given as goal

-- with those of the entries that are still to come, all
abbrev pub invariant-loop-turn : goal.invariant-loop-turn
invariant-loop-turn g l =
    l.chmods ++ opening_from (g.H.Hierarchy.state l.tree) l.user l.subtree l.passes l.turn
    ≡ opening (g.H.Hierarchy.state l.tree) l.user l.subtree
