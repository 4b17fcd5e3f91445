use Rattle.std.proofs.Common.{ℕ, List, ap, ◌∙◌}
use Rattle.toml.specs.View.{view, members_view, table_view}
use Rattle.cg_print.specs.Keys.{with_key}
use Rattle.cg_print.proofs.KeyLaws.{members_view-insert}
use Rattle.cg_print.proofs.keys.put.Goals as goal

pub returns : goal.returns
returns c =
    ap members_view c.in_ok-insert.ensures.entries ∙ members_view-insert c.args.table.now.entries c.in_ok-name.name c.args.value
    ∙ ap (λ (name : List ℕ). with_key name (view c.args.value) (table_view c.args.table.now)) c.in_ok-name.ensures.ok
