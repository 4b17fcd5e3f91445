use Rattle.cg_format.specs.Form.{row_keys}
use Rattle.cg_text.proofs.TakesLaws.{not_taken, all_taken, row_apart}
use Rattle.cg_text.proofs.tree.form.row_fits.Goals as goal

pub returns-then-not-takes_row : goal.returns-then-not-takes_row
returns-then-not-takes_row c =
    not_taken (row_keys c.args.format) _ (row_apart c.args.format)
    c.into_iter-key-iterator.ensures.into_iter_gives.5 _ _ _ _ _ _ c.loop-key.invariant
    c.in-Some.ensures.steps c.as_str.ensures.value c.takes_row.ensures c.if-not-takes_row.true

pub returns : goal.returns
returns c =
    all_taken (row_keys c.args.format) _ (row_apart c.args.format)
    c.into_iter-key-iterator.ensures.into_iter_gives.5 _ c.loop-key.invariant c.in-None.ensures.steps.0
