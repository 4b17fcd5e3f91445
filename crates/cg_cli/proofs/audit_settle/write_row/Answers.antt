use Rattle.std.proofs.Common.{sym, subst}
use Rattle.std.proofs.lemmas.Result.{err_from_is_err_and}
use Rattle.cg_cli.proofs.AllPairs.{Front, goes_on, stops}
use Rattle.cg_cli.proofs.SettledPairs.{row_next, line_here, line_within, line_shown}
use Rattle.cg_cli.proofs.audit_settle.write_row.Goals as goal

pub write_pair-requires : goal.write_pair-requires
write_pair-requires g c =
    let line =
    line_here c.args.subtrees.now c.args.row.now c.loop-found.found-index c.found-item.result c.requires.lines c.loop-found-test.true
    c.found-item.is in
    record {
      shown = line_shown c.args.subtrees.now c.found-item.result c.index-subtrees-found.result line c.index-subtrees-found.is;
      listed = line.1;
    }

pub returns-in_err-write_pair : goal.returns-in_err-write_pair
returns-in_err-write_pair g c =
    let p = err_from_is_err_and c.from_residual.result c.from_residual.ensures.1 in
    let within =
    line_within c.args.subtrees.now c.args.row.now c.loop-found.found-index c.found-item.result c.requires.lines c.loop-found-test.true
    c.found-item.is in
    let far =
    row_next c.args.user.now c.args.subtrees.now c.args.row.now c.loop-found.found-index c.found-item.result
    c.index-subtrees-found.result _ _ _ _ c.loop-found-test.true c.found-item.is within c.index-subtrees-found.is c.loop-found.invariant in
    rw (p.1, p.2) (stops _ _ _ _ _ _ _ _ far c.in_err-write_pair.field-0.0 c.in_err-write_pair.ensures)

pub loop-found-preserved : goal.loop-found-preserved
loop-found-preserved g c =
    let within =
    line_within c.args.subtrees.now c.args.row.now c.loop-found.found-index c.found-item.result c.requires.lines c.loop-found-test.true
    c.found-item.is in
    let far =
    row_next c.args.user.now c.args.subtrees.now c.args.row.now c.loop-found.found-index c.found-item.result
    c.index-subtrees-found.result _ _ _ _ c.loop-found-test.true c.found-item.is within c.index-subtrees-found.is c.loop-found.invariant in
    subst (Front _ _ _ _ _) (sym c.worse-worst.ensures) (goes_on _ _ _ _ _ _ _ _ far c.in_ok-write_pair.field-0 c.in_ok-write_pair.ensures)
