use Rattle.std.proofs.Common.{Err, map, refl, ap, ◌∙◌, inl, inr}
use Rattle.std.proofs.lemmas.Result.{err_from_is_err_and}
use Rattle.cg_cli.proofs.NamedReads.{kept_as}
use Rattle.cg_cli.proofs.StrangerLaws.{stranger_said}
use Rattle.cg_cli.proofs.ReadingOf.{on_text}
use Rattle.cg_cli.proofs.named_question.ask_named.Goals as goal

pub returns-in_err-named-clause-report : goal.returns-in_err-named-clause-report
returns-in_err-named-clause-report g c = on_text c.args.tree.now (λ read is.
    let met = err_from_is_err_and c.from_residual.result c.from_residual.ensures.1 in
    inl (c.in_err-named.field-0.0, c.in_err-named.ensures.named read is, met.1 ∙ ap Err met.2, refl))

pub returns-clause-report : goal.returns-clause-report
returns-clause-report g c = on_text c.args.tree.now (λ read is.
    inr (
      c.as_slice-users.result.now,
      c.as_slice-subtrees.result.now,
      c.in_ok-named.named.tree,
      kept_as (c.in_ok-named.ensures.named read is) c.as_slice-users.ensures.value c.as_slice-subtrees.ensures.value,
      c.answer.ensures,
    ))

pub returns-clause-stranger : goal.returns-clause-stranger
returns-clause-stranger g c =
    stranger_said c.args.tree.now (map (λ user. (user.uid, user.gids.now)) c.args.users.now)
    (map (λ subtree. subtree.now) c.args.subtrees.now)
    c.in_ok-named.named.users.items c.in_ok-named.named.subtrees.items c.in_ok-named.named.tree c.in_ok-named.ensures.named
    c.in_ok-named.named.stranger c.in_ok-named.ensures.stranger _
