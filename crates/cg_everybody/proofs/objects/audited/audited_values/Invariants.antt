use Rattle.std.proofs.Common.{◌≡◌, map, take}
use Rattle.std.specs.List.{flat_map}
use Rattle.serde_json.specs.View.{view}
use Rattle.cg_everybody.specs.Entrances.{IsWalked}
use Rattle.cg_everybody.specs.Everybody.{everybody_of}
use Rattle.cg_everybody.specs.Objects.{subtree_audited}
use Rattle.cg_everybody.proofs.objects.audited.audited_values.Given as goal

abbrev pub invariant-loop-subtree : goal.invariant-loop-subtree
invariant-loop-subtree g l =
    (map view l.list.items
    ≡ flat_map (subtree_audited (g.H.Hierarchy.state l.tree) (everybody_of l.asked)) (take l.subtree-index l.subtrees))
    × IsWalked (g.H.Hierarchy.state l.tree) (everybody_of l.asked) l.walk
