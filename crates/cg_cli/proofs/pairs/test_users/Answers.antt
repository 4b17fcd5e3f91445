use Rattle.std.proofs.Common.{◌≡◌, ◌++◌, ◌∷◌, [], map, Err, sym, ap, ◌∙◌}
use Rattle.std.proofs.lemmas.Result.{err_from_is_err_and}
use Rattle.cg_cli.specs.Arguments.{user_read}
use Rattle.cg_cli.specs.Audits.{users_read}
use Rattle.cg_cli.specs.Pairs.{pair_given}
use Rattle.cg_cli.proofs.EachRead.{read_more, read_stops}
use Rattle.cg_cli.proofs.pairs.test_users.Goals as goal

pub loop-pair-preserved : goal.loop-pair-preserved
loop-pair-preserved c = (
  c.loop-pair.invariant.0 ++ (c.in_ok-read_user.field-0 ∷ []),
  read_more (λ ids. user_read ids.0 ids.1) (λ pair. (pair_given pair).0) c.args.pairs.now c.loop-pair.pair-index _
      c.loop-pair.invariant.0 c.in_ok-read_user.field-0 c.loop-pair-test.true c.loop-pair.invariant.1 (sym c.in_ok-read_user.ensures),
)

pub returns-in_err-read_user-clause-fault : goal.returns-in_err-read_user-clause-fault
returns-in_err-read_user-clause-fault c =
    let p = err_from_is_err_and c.from_residual.result c.from_residual.ensures.1 in
    rw (p.1, p.2)
    (read_stops (λ ids. user_read ids.0 ids.1) (λ pair. (pair_given pair).0) c.args.pairs.now c.loop-pair.pair-index _
    c.loop-pair.invariant.0 c.in_err-read_user.field-0.0 c.loop-pair-test.true c.loop-pair.invariant.1 (sym c.in_err-read_user.ensures))

pub returns-in_err-read_user-clause-faults : goal.returns-in_err-read_user-clause-faults
returns-in_err-read_user-clause-faults c fault stated =
    let p = err_from_is_err_and c.from_residual.result c.from_residual.ensures.1 in
    let first : users_read (map (λ pair. (pair_given pair).0) c.args.pairs.now) ≡ Err c.in_err-read_user.field-0.0 =
    read_stops (λ ids. user_read ids.0 ids.1) (λ pair. (pair_given pair).0) c.args.pairs.now c.loop-pair.pair-index _
    c.loop-pair.invariant.0 c.in_err-read_user.field-0.0 c.loop-pair-test.true c.loop-pair.invariant.1 (sym c.in_err-read_user.ensures)
    in
    let whole : c.in_err-read_user.field-0.0 ≡ fault = cc (sym first ∙ stated) in
    rw (p.1, p.2) (ap Err whole)
