use Rattle.std.proofs.Common.{◌≡◌}
use Rattle.toml.specs.View.{table_view, members_view}
use Rattle.cg_text.specs.Keys.{flat_keys, takes_all}
use Rattle.cg_text.proofs.tree.form.is_flat.Given as goal

abbrev pub invariant-loop-key : goal.invariant-loop-key
invariant-loop-key l = takes_all (flat_keys l.kind) (members_view l.key-iterator) ≡ takes_all (flat_keys l.kind) (table_view l.table)
