use Rattle.std.proofs.Common.{not, ap, ◌∙◌}
use Rattle.toml.specs.View.{table_view}
use Rattle.cg_text.proofs.FurtherLaws.{beyond_here, beyond_later}
use Rattle.cg_text.proofs.tree.row.has_beyond.Goals as goal

pub returns-then-is_none : goal.returns-then-is_none
returns-then-is_none c =
    beyond_here (table_view c.args.table.now) _ _ _ _ _ _ c.loop-key.invariant c.in-Some.ensures.steps c.as_str.ensures.value
    c.in_format_2.ensures.found (c.is_none.ensures ∙ ap not c.if-is_none.true)

pub loop-key-preserved : goal.loop-key-preserved
loop-key-preserved c =
    beyond_later (table_view c.args.table.now) _ _ _ _ _ _ c.loop-key.invariant c.in-Some.ensures.steps c.as_str.ensures.value
    c.in_format_2.ensures.found (c.is_none.ensures ∙ ap not c.if-is_none.false)
