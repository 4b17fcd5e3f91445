use Rattle.std.proofs.Common.{◌≡◌, ◌++◌, drop}
use Rattle.std.specs.List.{flat_map}
use Rattle.cg_model.specs.Guards.{guarded_entries}
use Rattle.cg_everybody.specs.Everybody.{everybody_of}
use Rattle.cg_everybody.specs.Explained.{guarded_explained}
use Rattle.cg_everybody.proofs.explained.push_guarded.Given as goal

-- with those that are still to come, all
abbrev pub invariant-loop-place : goal.invariant-loop-place
invariant-loop-place g l =
    l.text.items
    ++ flat_map (guarded_explained (g.H.Hierarchy.state l.tree) (everybody_of l.asked) l.subtree) (drop l.place (guarded_entries l.subtree))
    ≡ l.fn.text.items
    ++ flat_map (guarded_explained (g.H.Hierarchy.state l.tree) (everybody_of l.asked) l.subtree) (guarded_entries l.subtree)
