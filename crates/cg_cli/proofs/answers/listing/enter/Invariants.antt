use Rattle.std.proofs.Common.{◌≡◌, length, drop}
use Rattle.cg_cli.specs.ListedRows.{in_rows}
use Rattle.cg_cli.proofs.answers.listing.enter.Given as goal

-- what is left to enter leads to the same rows
abbrev pub invariant-loop-each : goal.invariant-loop-each
invariant-loop-each l = record {
  rest :
      in_rows l.subtree (drop (length l.yielded) l.fn.found.items) l.rows.items
      ≡ in_rows l.subtree l.fn.found.items l.initial.rows.items;
  count : length l.rows.items ≡ length l.initial.rows.items;
}
