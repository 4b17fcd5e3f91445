use Rattle.std.proofs.Common.{drop}
use Rattle.cg_cli.specs.SettledRows.{row_pairs}
use Rattle.cg_cli.specs.Formats.{listing_in}
use Rattle.cg_cli.proofs.AllPairs.{Front}
use Rattle.cg_cli.proofs.audit_settle.write_row.Given as goal

-- the pairs before this one are written
abbrev pub invariant-loop-found : goal.invariant-loop-found
invariant-loop-found g l =
    Front (listing_in l.format) (row_pairs l.user l.subtrees l.row) (row_pairs l.user l.subtrees (drop l.found-index l.row))
    (g.W.Write.contents l.initial.out) (g.W.Write.contents l.out) l.worst
