use Rattle.std.proofs.Common.{◌≡◌, refl, rules, arith, sym, ◌∙◌}
use Rattle.std.specs.Prelude.{None}
use Rattle.std.specs.List.{slice_split}
use Rattle.std.proofs.lemmas.Grind.{common_steps}
use Rattle.cg_lines.specs.LineReading.{is_space, changes_at}
use Rattle.cg_lines.proofs.LineChanges.{changes_more, changes_last, changes_bad, changes_last_bad}
use Rattle.cg_lines.proofs.lines.operations.changes_of.Goals as goal

pub returns-in_err-ok_or : goal.returns-in_err-ok_or
returns-in_err-ok_or c =
    let bad : changes_at c.args.vocabulary (slice_split is_space c.args.words.now) ≡ None =
    changes_bad c.args.vocabulary c.loop-word.changes c.loop-word.rest.now (c.in-Some.word.now, c.in-Some.others.now) _
    (sym c.in-Some.ensures) (sym c.change_of.ensures ∙ c.in_err-ok_or.ensures.ok_part) c.loop-word.invariant.1 in
    grind (arith, common_steps)

pub loop-word-preserved : goal.loop-word-preserved
loop-word-preserved c = (
  search rules,
  rw c.in_ok-push.ensures.ok (changes_more c.args.vocabulary c.loop-word.changes c.loop-word.rest.now
      (c.in-Some.word.now, c.in-Some.others.now) c.in_ok-ok_or.field-0 _ (sym c.in-Some.ensures)
      (sym c.change_of.ensures ∙ c.in_ok-ok_or.ensures.ok_part) c.loop-word.invariant.1),
)

pub returns-in_err-ok_or-2 : goal.returns-in_err-ok_or-2
returns-in_err-ok_or-2 c =
    let bad : changes_at c.args.vocabulary (slice_split is_space c.args.words.now) ≡ None =
    changes_last_bad c.args.vocabulary c.loop-word.changes c.loop-word.rest.now _ (sym c.in_default.ensures)
    (sym c.change_of-2.ensures ∙ c.in_err-ok_or-2.ensures.ok_part) c.loop-word.invariant.1 in
    grind (arith, common_steps)

pub returns : goal.returns
returns c =
    changes_last c.args.vocabulary c.loop-word.changes c.loop-word.rest.now c.in_ok-ok_or-2.field-0 _ (sym c.in_default.ensures)
    (sym c.change_of-2.ensures ∙ c.in_ok-ok_or-2.ensures.ok_part) c.loop-word.invariant.1
    ∙ rw c.in_ok-push-2.ensures.ok refl
