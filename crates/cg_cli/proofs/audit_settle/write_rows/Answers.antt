use Rattle.std.proofs.Common.{◌≡◌, ◌∙◌, List, get_or, sym, subst, arith}
use Rattle.std.specs.List.{All}
use Rattle.std.proofs.lemmas.Result.{err_from_is_err_and}
use Rattle.cg_cli.specs.declared.answers.audited.Found.{Found}
use Rattle.cg_cli.specs.SettledRows.{IsPairLine}
use Rattle.cg_cli.proofs.AllPairs.{Front, goes_on, stops}
use Rattle.cg_cli.proofs.SettledPairs.{rows_next}
use Rattle.cg_cli.proofs.audit_settle.write_rows.Goals as goal

pub write_row-requires : goal.write_row-requires
write_row-requires g c = record {
  lines =
      subst (All (IsPairLine c.args.subtrees.now)) (sym (c.as_slice.ensures ∙ c.index-rows-place.is))
      (c.requires.lines c.loop-place.place c.index-rows-place.result (omega (arith, c.loop-place-test.true, c.requires.all)));
}

pub returns-in_err-write_row : goal.returns-in_err-write_row
returns-in_err-write_row g c =
    let p = err_from_is_err_and c.from_residual.result c.from_residual.ensures.1 in
    let far =
    rows_next c.args.users.now c.args.subtrees.now c.args.rows.now c.loop-place.place c.index-users-place.result c.as_slice.result.now
    _ _ _ _
    c.loop-place-test.true c.requires.all c.index-users-place.is
    (subst (λ (row : List Found). row ≡ get_or c.args.rows.now c.loop-place.place row) (sym c.as_slice.ensures) c.index-rows-place.is)
    c.loop-place.invariant in
    rw (p.1, p.2) (stops _ _ _ _ _ _ _ _ far c.in_err-write_row.field-0.0 c.in_err-write_row.ensures)

pub loop-place-preserved : goal.loop-place-preserved
loop-place-preserved g c =
    let far =
    rows_next c.args.users.now c.args.subtrees.now c.args.rows.now c.loop-place.place c.index-users-place.result c.as_slice.result.now
    _ _ _ _
    c.loop-place-test.true c.requires.all c.index-users-place.is
    (subst (λ (row : List Found). row ≡ get_or c.args.rows.now c.loop-place.place row) (sym c.as_slice.ensures) c.index-rows-place.is)
    c.loop-place.invariant in
    subst (Front _ _ _ _ _) (sym c.worse-worst.ensures) (goes_on _ _ _ _ _ _ _ _ far c.in_ok-write_row.field-0 c.in_ok-write_row.ensures)
