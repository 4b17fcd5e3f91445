use Rattle.std.proofs.Common.{ap, ◌∙◌}
use Rattle.std.proofs.lemmas.Result.{err_from_is_err_and}
use Rattle.cg_cli.specs.Arguments.{path_read}
use Rattle.cg_cli.proofs.EachRead.{read_more, read_stops}
use Rattle.cg_cli.proofs.Once.{path_first, path_again}
use Rattle.cg_cli.proofs.named.paths_once.Goals as goal
use Rattle.cg_cli.proofs.named.paths_once.Goals.{then-is_new+in_ok-push, else-is_new}

pub returns-in_err-path : goal.returns-in_err-path
returns-in_err-path c =
    let p = err_from_is_err_and c.from_residual.result c.from_residual.ensures.1 in
    rw (p.1, p.2)
    (λ known. read_stops path_read (λ text. text.now) c.args.texts.now c.loop-text.text-index _ c.loop-text.invariant.all
    c.in_err-path.field-0.0 c.loop-text-test.true c.loop-text.invariant.is (c.in_err-path.ensures known))

pub loop-text-preserved : goal.loop-text-preserved
loop-text-preserved c =
    elim c.if-is_new.branch [
      | then-is_new+in_ok-push w ↦
          path_first _ _ c.loop-text.read.items _ _ c.in_ok-try_clone.field-0 c.in_ok-path.path c.in_ok-is_new.is_new c.loop-text.invariant
          (λ all is. read_more path_read (λ text. text.now) c.args.texts.now c.loop-text.text-index _ all c.in_ok-path.path
          c.loop-text-test.true is c.in_ok-path.ensures)
          c.in_ok-try_clone.ensures c.in_ok-is_new.ensures.updates.0 c.in_ok-is_new.ensures.added w.if-is_new.true _
          (ap (λ v. v.items) w.read-is ∙ w.in_ok-push.ensures.items)
      | else-is_new w ↦
          path_again _ _ c.loop-text.read.items _ _ c.in_ok-try_clone.field-0 c.in_ok-path.path c.in_ok-is_new.is_new c.loop-text.invariant
          (λ all is. read_more path_read (λ text. text.now) c.args.texts.now c.loop-text.text-index _ all c.in_ok-path.path
          c.loop-text-test.true is c.in_ok-path.ensures)
          c.in_ok-try_clone.ensures c.in_ok-is_new.ensures.updates.0 c.in_ok-is_new.ensures.added w.if-is_new.false _
          (ap (λ v. v.items) w.read-is)
    ]
