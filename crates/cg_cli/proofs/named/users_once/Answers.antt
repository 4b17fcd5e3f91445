use Rattle.std.proofs.Common.{sym, ap, ◌∙◌}
use Rattle.std.proofs.lemmas.Result.{err_from_is_err_and}
use Rattle.cg_cli.specs.Arguments.{user_read}
use Rattle.cg_cli.proofs.EachRead.{read_more, read_stops}
use Rattle.cg_cli.proofs.Once.{user_first, user_again}
use Rattle.cg_cli.proofs.named.users_once.Goals as goal
use Rattle.cg_cli.proofs.named.users_once.Goals.{then-is_new+in_ok-push, else-is_new}

pub returns-in_err-one-clause-read : goal.returns-in_err-one-clause-read
returns-in_err-one-clause-read c =
    let p = err_from_is_err_and c.from_residual-in_err-one.result c.from_residual-in_err-one.ensures.1 in
    rw (p.1, p.2)
    (λ known. read_stops (λ ids. user_read ids.0 ids.1) (λ user. (user.uid, user.gids.now)) c.args.users.now c.loop-user.user-index _
    c.loop-user.invariant.all c.in_err-one.field-0.0 c.loop-user-test.true c.loop-user.invariant.is (sym c.in_err-one.ensures))

pub loop-user-preserved : goal.loop-user-preserved
loop-user-preserved c =
    elim c.if-is_new.branch [
      | then-is_new+in_ok-push w ↦ user_first _ _ c.loop-user.read.items _ _ _ _ c.in_ok-one.one c.in_ok-is_new.is_new c.loop-user.invariant
          (λ all is. read_more (λ ids. user_read ids.0 ids.1) (λ user. (user.uid, user.gids.now)) c.args.users.now c.loop-user.user-index _
          all c.in_ok-one.one c.loop-user-test.true is (sym c.in_ok-one.ensures))
          c.in_ok-one.ensures c.in_ok-is_new.ensures.updates.0 c.in_ok-is_new.ensures.added w.if-is_new.true _
          (ap (λ v. v.items) w.read-is ∙ w.in_ok-push.ensures.items)
      | else-is_new w ↦ user_again _ _ c.loop-user.read.items _ _ _ _ c.in_ok-one.one c.in_ok-is_new.is_new c.loop-user.invariant
          (λ all is. read_more (λ ids. user_read ids.0 ids.1) (λ user. (user.uid, user.gids.now)) c.args.users.now c.loop-user.user-index _
          all c.in_ok-one.one c.loop-user-test.true is (sym c.in_ok-one.ensures))
          c.in_ok-one.ensures c.in_ok-is_new.ensures.updates.0 c.in_ok-is_new.ensures.added w.if-is_new.false _
          (ap (λ v. v.items) w.read-is)
    ]
