use Rattle.std.proofs.Common.{◌≡◌, map, take}
use Rattle.serde_json.specs.View.{view}
use Rattle.cg_everybody.specs.Everybody.{everybody_of}
use Rattle.cg_everybody.specs.Objects.{subtree_explained_value}
use Rattle.cg_everybody.proofs.objects.explained.explained_values.Given as goal

abbrev pub invariant-loop-subtree : goal.invariant-loop-subtree
invariant-loop-subtree g l =
    map view l.list.items
    ≡ map (subtree_explained_value (g.H.Hierarchy.state l.tree) (everybody_of l.asked)) (take l.subtree-index l.subtrees)
