use Rattle.std.proofs.Common.{◌≡◌}
use Rattle.std.specs.List.{flat_map}
use Rattle.cg_model.specs.Clauses.{first}
use Rattle.cg_model.specs.Guards.{guarded_entries, entry_failures}
use Rattle.cg_guards.proofs.FirstFailed.{failures_from}
use Rattle.cg_guards.proofs.failed.failed_entry.Given as goal

-- the first failure of the entries that are still to come is that of all
abbrev pub invariant-loop-turn : goal.invariant-loop-turn
invariant-loop-turn g l =
    first (failures_from (g.H.Hierarchy.state l.tree) l.user l.subtree l.passes l.turn)
    ≡ first (flat_map (entry_failures (g.H.Hierarchy.state l.tree) l.user l.subtree) (guarded_entries l.subtree))
