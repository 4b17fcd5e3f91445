use Rattle.std.proofs.Common.{◌≡◌, drop, map, filter_map}
use Rattle.toml.specs.Data.{as_str}
use Rattle.toml.specs.View.{view, table_view}
use Rattle.cg_format.specs.Said.{controllers_from, controllers_said}
use Rattle.cg_text.proofs.tree.said.controllers_at.Given as goal

abbrev pub invariant-loop-element : goal.invariant-loop-element
invariant-loop-element l =
    controllers_from l.controllers (filter_map as_str (map view (drop l.element-index l.elements)))
    ≡ controllers_said l.key (table_view l.table)
