use Rattle.std.proofs.Common.{◌≡◌, option_copied}
use Rattle.cg_model.specs.Guards.{guarded_entries}
use Rattle.cg_guards.specs.GuardedUsers.{AreSpared, kept_off}
use Rattle.cg_guards.specs.Reach.{AreCovered}
use Rattle.cg_guards.proofs.KeptOff.{kept_from}
use Rattle.cg_guards.proofs.users.guarded_users.Given as goal

-- those left, kept off the entries that are still to come, are those kept off all; none of them reaches one that is out of reach or the one
-- asked last
abbrev pub invariant-loop-turn : goal.invariant-loop-turn
invariant-loop-turn g l = record {
  off : kept_from (g.H.Hierarchy.state l.tree) l.subtree l.passes l.turn l.left
      ≡ kept_off (g.H.Hierarchy.state l.tree) l.subtree (guarded_entries l.subtree) l.fn.users;
  covered : AreCovered (option_copied l.identities) l.left;
  asked : AreSpared l.asked l.left;
}
