use Rattle.std.proofs.Common.{drop, map}
use Rattle.cg_advice.specs.Ways.{pair_of}
use Rattle.cg_cli.specs.EachPair.{pairs_listed}
use Rattle.cg_cli.specs.Formats.{listing_in}
use Rattle.cg_cli.proofs.AllPairs.{Front}
use Rattle.cg_cli.proofs.audit_pairs.write_pairs.Given as goal

-- the pairs before this one are written
abbrev pub invariant-loop-pair : goal.invariant-loop-pair
invariant-loop-pair g l =
    Front (listing_in l.format) (pairs_listed (g.H.Hierarchy.state l.tree) (map pair_of l.pairs))
    (pairs_listed (g.H.Hierarchy.state l.tree) (map pair_of (drop l.pair-index l.pairs)))
    (g.W.Write.contents l.initial.out) (g.W.Write.contents l.out) l.worst
