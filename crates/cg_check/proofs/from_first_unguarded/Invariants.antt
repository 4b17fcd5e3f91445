use Rattle.std.proofs.Common.{◌≡◌, drop, option_copied}
use Rattle.std.specs.List.{take_while}
use Rattle.cg_guards.specs.GuardedUsers.{AreSpared}
use Rattle.cg_guards.specs.Reach.{AreCovered}
use Rattle.cg_check.specs.Listed.{is_guarded_of_all}
use Rattle.cg_check.proofs.from_first_unguarded.Given as goal

-- those left, as far as the guards of the subtrees still to come hold, are those for whom the guards of all hold; none of them reaches an
-- entry out of reach or the one asked last
abbrev pub invariant-loop-subtree : goal.invariant-loop-subtree
invariant-loop-subtree g l = record {
  left :
      take_while (is_guarded_of_all (g.H.Hierarchy.state l.tree) (drop l.subtree-index l.subtrees)) l.left
      ≡ take_while (is_guarded_of_all (g.H.Hierarchy.state l.tree) l.subtrees) l.users;
  covered : AreCovered (option_copied l.identities) l.left;
  asked : AreSpared l.asked l.left;
}
