use Rattle.std.proofs.Common.{option_copied}
use Rattle.cg_guards.specs.GuardedUsers.{AreSpared}
use Rattle.cg_guards.specs.Reach.{AreCovered}
use Rattle.cg_check.proofs.FirstUnguarded.{IsBelow}
use Rattle.cg_check.proofs.first_unguarded.Given as goal

abbrev pub invariant-loop-place : goal.invariant-loop-place
invariant-loop-place g l = record {
  below : IsBelow (g.H.Hierarchy.state l.tree) l.fn.users l.subtrees l.place l.guarded l.found;
  covered : AreCovered (option_copied l.identities) l.guarded;
  asked : AreSpared l.asked l.guarded;
}
