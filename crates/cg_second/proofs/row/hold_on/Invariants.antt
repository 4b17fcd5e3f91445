use Rattle.std.proofs.Common.{◌≡◌, true, take}
use Rattle.std.specs.List.{list_all}
use Rattle.cg_second.specs.Judged.{second_row}
use Rattle.cg_second.proofs.row.hold_on.Given as goal

-- the second row of the subtrees before this one holds
abbrev pub invariant-loop-subtree : goal.invariant-loop-subtree
invariant-loop-subtree g l =
    list_all (second_row (g.H.Hierarchy.state l.survey.tree.now) l.survey.users.now) (take l.subtree-index l.subtrees) ≡ true
