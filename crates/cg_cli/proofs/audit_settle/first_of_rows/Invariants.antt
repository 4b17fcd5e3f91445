use Rattle.std.proofs.Common.{◌≡◌, drop}
use Rattle.cg_cli.specs.SettledRows.{rows_pairs}
use Rattle.cg_cli.proofs.audit_settle.first_of_rows.Given as goal

-- nothing is listed of the users before this one
abbrev pub invariant-loop-place : goal.invariant-loop-place
invariant-loop-place l = rows_pairs (drop l.place l.users) l.subtrees (drop l.place l.rows) ≡ rows_pairs l.users l.subtrees l.rows
