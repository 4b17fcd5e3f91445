use Rattle.std.proofs.Common.{◌≡◌, ◌++◌}
use Rattle.std.specs.List.{All}
use Rattle.cg_advice.specs.AdviceLines.{IsShown}
use Rattle.cg_explain.specs.FirstRow.{first_row}
use Rattle.cg_explain.proofs.Telling.{row_from}
use Rattle.cg_explain.proofs.first.first_row.Given as goal

-- with the entries that are still to come, all; and each so far can be shown
abbrev pub invariant-loop-turn : goal.invariant-loop-turn
invariant-loop-turn g l =
    (l.row.items ++ row_from (g.H.Hierarchy.state l.tree) l.user l.subtree l.passes l.turn
    ≡ first_row (g.H.Hierarchy.state l.tree) l.user l.subtree)
    × All (λ told. IsShown l.subtree told.at) l.row.items
