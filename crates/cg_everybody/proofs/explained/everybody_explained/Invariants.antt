use Rattle.std.proofs.Common.{◌≡◌, take}
use Rattle.cg_everybody.specs.Everybody.{everybody_of}
use Rattle.cg_everybody.specs.Explained.{everybody_explained}
use Rattle.cg_everybody.proofs.explained.everybody_explained.Given as goal

abbrev pub invariant-loop-subtree : goal.invariant-loop-subtree
invariant-loop-subtree g l =
    l.text.items ≡ everybody_explained (g.H.Hierarchy.state l.tree) (everybody_of l.asked) (take l.subtree-index l.subtrees)
