use Rattle.cg_format.specs.Form.{file_keys_of}
use Rattle.cg_text.proofs.TakesLaws.{not_taken, all_taken, file_apart}
use Rattle.cg_text.proofs.tree.form.files_fit.Goals as goal

pub returns-then-not-takes_file : goal.returns-then-not-takes_file
returns-then-not-takes_file c =
    not_taken (file_keys_of c.args.format) _ (file_apart c.args.format)
    c.into_iter-key-iterator.ensures.into_iter_gives.5 _ _ _ _ _ _ c.loop-key.invariant
    c.in-Some.ensures.steps c.as_str.ensures.value c.takes_file.ensures c.if-not-takes_file.true

pub returns : goal.returns
returns c =
    all_taken (file_keys_of c.args.format) _ (file_apart c.args.format)
    c.into_iter-key-iterator.ensures.into_iter_gives.5 _ c.loop-key.invariant c.in-None.ensures.steps.0
