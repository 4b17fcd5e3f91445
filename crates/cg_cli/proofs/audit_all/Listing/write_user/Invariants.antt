use Rattle.std.proofs.Common.{drop}
use Rattle.cg_model.specs.Listed.{listed_of}
use Rattle.cg_cli.specs.Formats.{listing_in}
use Rattle.cg_cli.proofs.AllPairs.{Front}
use Rattle.cg_cli.proofs.audit_all.Listing.write_user.Given as goal

-- the pairs with the subtrees before this one are written
abbrev pub invariant-loop-subtree : goal.invariant-loop-subtree
invariant-loop-subtree g l =
    Front (listing_in l.self.format) (listed_of (g.H.Hierarchy.state l.self.tree.now) l.self.subtrees.now l.user)
    (listed_of (g.H.Hierarchy.state l.self.tree.now) (drop l.subtree-index l.self.subtrees.now) l.user)
    (g.W.Write.contents l.initial.out) (g.W.Write.contents l.out) l.worst
