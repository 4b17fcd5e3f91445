use Rattle.std.proofs.Common.{◌≡◌}
use Rattle.toml.specs.View.{table_view, members_view}
use Rattle.cg_format.specs.Form.{row_keys}
use Rattle.cg_text.specs.Keys.{takes_all}
use Rattle.cg_text.proofs.tree.form.row_fits.Given as goal

abbrev pub invariant-loop-key : goal.invariant-loop-key
invariant-loop-key l = takes_all (row_keys l.format) (members_view l.key-iterator) ≡ takes_all (row_keys l.format) (table_view l.table)
