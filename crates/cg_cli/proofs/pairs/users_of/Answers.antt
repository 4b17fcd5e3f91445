use Rattle.std.proofs.Common.{sym, ap, ◌∙◌, Ok}
use Rattle.std.proofs.lemmas.Result.{err_from_is_err_and}
use Rattle.cg_cli.specs.Arguments.{user_read}
use Rattle.cg_cli.specs.Pairs.{pair_given}
use Rattle.cg_cli.proofs.EachRead.{read_more, read_stops}
use Rattle.cg_cli.proofs.pairs.users_of.Goals as goal

pub returns-in_err-read_user-clause-read : goal.returns-in_err-read_user-clause-read
returns-in_err-read_user-clause-read c =
    let p = err_from_is_err_and c.from_residual-in_err-read_user.result c.from_residual-in_err-read_user.ensures.1 in
    rw (p.1, p.2)
    (λ known. read_stops (λ ids. user_read ids.0 ids.1) (λ pair. (pair_given pair).0) c.args.pairs.now c.loop-pair.pair-index _
    c.loop-pair.users.items c.in_err-read_user.field-0.0 c.loop-pair-test.true c.loop-pair.invariant (sym c.in_err-read_user.ensures))

pub loop-pair-preserved : goal.loop-pair-preserved
loop-pair-preserved c =
    read_more (λ ids. user_read ids.0 ids.1) (λ pair. (pair_given pair).0) c.args.pairs.now c.loop-pair.pair-index _
    c.loop-pair.users.items c.in_ok-read_user.field-0 c.loop-pair-test.true c.loop-pair.invariant (sym c.in_ok-read_user.ensures)
    ∙ ap Ok (sym c.in_ok-push.ensures.items)
