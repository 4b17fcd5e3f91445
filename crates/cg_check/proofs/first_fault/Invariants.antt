use Rattle.std.proofs.Common.{◌≡◌, ◌<◌, drop}
use Rattle.std.specs.List.{flat_map}
use Rattle.cg_model.specs.WellFormed.{IsWellFormed}
use Rattle.cg_model.specs.Clauses.{first}
use Rattle.cg_model.specs.Checks.{subtree_faults}
use Rattle.cg_check.proofs.first_fault.Given as goal

-- the first fault of the subtrees that are still to come is that of all
abbrev pub invariant-loop-subtree : goal.invariant-loop-subtree
invariant-loop-subtree g l = record {
  fault : first (flat_map (subtree_faults (g.H.Hierarchy.state l.tree)) (drop l.subtree-index l.subtrees))
      ≡ first (flat_map (subtree_faults (g.H.Hierarchy.state l.tree)) l.subtrees);
  formed : 0 < l.subtree-index → IsWellFormed (g.H.Hierarchy.state l.tree);
}
