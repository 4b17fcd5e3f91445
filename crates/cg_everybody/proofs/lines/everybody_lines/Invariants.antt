use Rattle.std.proofs.Common.{◌≡◌, take}
use Rattle.cg_everybody.specs.Everybody.{everybody_of, everybody_lines}
use Rattle.cg_everybody.specs.Entrances.{IsWalked}
use Rattle.cg_everybody.proofs.lines.everybody_lines.Given as goal

abbrev pub invariant-loop-subtree : goal.invariant-loop-subtree
invariant-loop-subtree g l =
    (l.text.items ≡ everybody_lines (g.H.Hierarchy.state l.tree) (everybody_of l.asked) (take l.subtree-index l.subtrees))
    × IsWalked (g.H.Hierarchy.state l.tree) (everybody_of l.asked) l.walk
