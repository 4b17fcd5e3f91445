use Rattle.std.proofs.Common.{drop}
use Rattle.cg_cli.specs.SettledRows.{rows_pairs}
use Rattle.cg_cli.specs.Formats.{listing_in}
use Rattle.cg_cli.proofs.AllPairs.{Front}
use Rattle.cg_cli.proofs.audit_settle.write_rows.Given as goal

-- the pairs of the users before this one are written
abbrev pub invariant-loop-place : goal.invariant-loop-place
invariant-loop-place g l =
    Front (listing_in l.format) (rows_pairs l.users l.subtrees l.rows) (rows_pairs (drop l.place l.users) l.subtrees (drop l.place l.rows))
    (g.W.Write.contents l.initial.out) (g.W.Write.contents l.out) l.worst
