use Rattle.std.proofs.Common.{Err, refl, ap, ◌∙◌, inl, inr}
use Rattle.std.proofs.lemmas.Result.{err_from_is_err_and}
use Rattle.cg_cli.proofs.ReadingOf.{on_text}
use Rattle.cg_cli.proofs.pairs.ask_pairs.Goals as goal

pub returns-in_err-named : goal.returns-in_err-named
returns-in_err-named g c = on_text c.args.tree.now (λ read is.
    let met = err_from_is_err_and c.from_residual.result c.from_residual.ensures.1 in
    inl (c.in_err-named.field-0.0, c.in_err-named.ensures read is, met.1 ∙ ap Err met.2, refl))

pub returns : goal.returns
returns g c = on_text c.args.tree.now (λ read is.
    inr (
      c.as_slice-users.result.now,
      c.as_slice-subtrees.result.now,
      c.in_ok-named.named.tree,
      rw (c.as_slice-users.ensures.value, c.as_slice-subtrees.ensures.value) (c.in_ok-named.ensures read is),
      c.answer.ensures,
    ))
