use Rattle.cg_text.specs.Keys.{flat_keys}
use Rattle.cg_text.proofs.TakesLaws.{not_taken, all_taken, flat_apart}
use Rattle.cg_text.proofs.tree.form.is_flat.Goals as goal

pub returns-then-not-takes_flat : goal.returns-then-not-takes_flat
returns-then-not-takes_flat c =
    not_taken (flat_keys c.args.kind) _ (flat_apart c.args.kind)
    c.into_iter-key-iterator.ensures.into_iter_gives.5 _ _ _ _ _ _ c.loop-key.invariant
    c.in-Some.ensures.steps c.as_str.ensures.value c.takes_flat.ensures c.if-not-takes_flat.true

pub returns : goal.returns
returns c =
    all_taken (flat_keys c.args.kind) _ (flat_apart c.args.kind)
    c.into_iter-key-iterator.ensures.into_iter_gives.5 _ c.loop-key.invariant c.in-None.ensures.steps.0
