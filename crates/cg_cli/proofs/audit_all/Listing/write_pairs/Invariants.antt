use Rattle.std.proofs.Common.{length, Some}
use Rattle.cg_model.specs.Listed.{listed}
use Rattle.cg_guards.specs.Reach.{AreCovered}
use Rattle.cg_cli.specs.Formats.{listing_in}
use Rattle.cg_cli.proofs.AllPairs.{Front}
use Rattle.cg_cli.proofs.audit_all.Listing.write_pairs.Given as goal

-- the pairs of the users before those who are left are written, and nobody of these reaches what the identities put out of reach
abbrev pub invariant-users : goal.invariant-users
invariant-users g l = record {
  front :
      Front (listing_in l.self.format) (listed (g.H.Hierarchy.state l.self.tree.now) l.fn.users l.self.subtrees.now)
      (listed (g.H.Hierarchy.state l.self.tree.now) l.left l.self.subtrees.now)
      (g.W.Write.contents l.initial.out) (g.W.Write.contents l.out) l.worst;
  covered : AreCovered (Some l.identities) l.left;
}

abbrev pub decreases-users : goal.decreases-users
decreases-users g l = length l.left
