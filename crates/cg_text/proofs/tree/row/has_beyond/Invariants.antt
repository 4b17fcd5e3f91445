use Rattle.std.proofs.Common.{◌≡◌}
use Rattle.toml.specs.View.{table_view, members_view}
use Rattle.cg_text.specs.Rows.{has_beyond}
use Rattle.cg_text.proofs.tree.row.has_beyond.Given as goal

abbrev pub invariant-loop-key : goal.invariant-loop-key
invariant-loop-key l = has_beyond (members_view l.key-iterator) ≡ has_beyond (table_view l.table)
