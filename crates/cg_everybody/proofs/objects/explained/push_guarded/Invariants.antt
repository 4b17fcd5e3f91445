use Rattle.std.proofs.Common.{◌≡◌, ◌++◌, drop, map}
use Rattle.std.specs.List.{flat_map}
use Rattle.cg_model.specs.Guards.{guarded_entries}
use Rattle.serde_json.specs.View.{view}
use Rattle.cg_everybody.specs.Everybody.{everybody_of}
use Rattle.cg_everybody.specs.Objects.{guarded_values}
use Rattle.cg_everybody.proofs.objects.explained.push_guarded.Given as goal

-- with those that are still to come, all
abbrev pub invariant-loop-place : goal.invariant-loop-place
invariant-loop-place g l =
    map view l.list.items
    ++ flat_map (guarded_values (g.H.Hierarchy.state l.tree) (everybody_of l.asked) l.subtree) (drop l.place (guarded_entries l.subtree))
    ≡ map view l.fn.list.items
    ++ flat_map (guarded_values (g.H.Hierarchy.state l.tree) (everybody_of l.asked) l.subtree) (guarded_entries l.subtree)
