use Rattle.std.proofs.Common.{length}
use Rattle.std.specs.Prelude.{option_copied}
use Rattle.cg_guards.specs.Reach.{AreCovered}
use Rattle.cg_cli.proofs.FoundPlaces.{IsReached}
use Rattle.cg_cli.proofs.answers.audited.alone.Given as goal

-- of all before those who are left it is known what is found, and nobody of these reaches what the identities put out of reach
abbrev pub invariant-users : goal.invariant-users
invariant-users g l = record {
  reached : IsReached (g.H.Hierarchy.state l.tree) l.users l.subtree l.left l.found.items;
  covered : AreCovered (option_copied l.identities) l.left;
}

abbrev pub decreases-users : goal.decreases-users
decreases-users g l = length l.left
