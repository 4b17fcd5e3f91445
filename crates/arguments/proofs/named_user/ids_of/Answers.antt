use Rattle.std.proofs.Common.{◌≡◌, refl, rules, arith, sym, ◌∙◌}
use Rattle.std.specs.Prelude.{None}
use Rattle.std.specs.List.{slice_split}
use Rattle.std.proofs.lemmas.Grind.{common_steps}
use Rattle.arguments.specs.UserWords.{is_comma, ids_at}
use Rattle.arguments.proofs.UserWordLaws.{ids_more, ids_last, ids_bad, ids_last_bad, ok_or_some, ok_or_none}
use Rattle.arguments.proofs.named_user.ids_of.Goals as goal

pub returns-in_err-id_of : goal.returns-in_err-id_of
returns-in_err-id_of c =
    let bad : ids_at (slice_split is_comma c.args.words.now) ≡ None =
    ids_bad c.loop-word.ids.items c.loop-word.rest.now (c.in-Some.word.now, c.in-Some.others.now) _ (sym c.in-Some.ensures)
    (ok_or_none _ _ _ c.in_err-id_of.ensures) c.loop-word.invariant.1 in
    grind (arith, common_steps)

pub loop-word-preserved : goal.loop-word-preserved
loop-word-preserved c = (
  search rules,
  rw c.in_ok-push.ensures.items (ids_more c.loop-word.ids.items c.loop-word.rest.now
      (c.in-Some.word.now, c.in-Some.others.now) c.in_ok-id_of.field-0 _ (sym c.in-Some.ensures) (ok_or_some _ _ _ c.in_ok-id_of.ensures)
      c.loop-word.invariant.1),
)

pub returns-in_err-id_of-2 : goal.returns-in_err-id_of-2
returns-in_err-id_of-2 c =
    let bad : ids_at (slice_split is_comma c.args.words.now) ≡ None =
    ids_last_bad c.loop-word.ids.items c.loop-word.rest.now _ (sym c.in_default.ensures) (ok_or_none _ _ _ c.in_err-id_of-2.ensures)
    c.loop-word.invariant.1 in
    grind (arith, common_steps)

pub returns : goal.returns
returns c =
    ids_last c.loop-word.ids.items c.loop-word.rest.now c.in_ok-id_of-2.field-0 _ (sym c.in_default.ensures)
    (ok_or_some _ _ _ c.in_ok-id_of-2.ensures) c.loop-word.invariant.1
    ∙ rw c.in_ok-push-2.ensures.items refl
