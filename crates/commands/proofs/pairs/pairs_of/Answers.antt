use Rattle.std.proofs.Common.{map, arith}
use Rattle.std.proofs.lemmas.Result.{err_from_is_err_and}
use Rattle.arguments.specs.Given.{ids_of_pair}
use Rattle.commands.specs.PairLines.{line_read}
use Rattle.commands.proofs.LineLaws.{further, stopped, ended, cut_off}
use Rattle.commands.proofs.pairs.pairs_of.Goals as goal

pub loop-line-preserved : goal.loop-line-preserved
loop-line-preserved c = record {
  read =
      rw c.in_ok-push_line.ensures.pairs.2
      (further line_read c.args.is_long c.loop-line.done c.loop-line.rest.now (map ids_of_pair c.loop-line.pairs.items) _
      c.loop-line.invariant.read c.in-Some.line.now c.in-Some.others.now c.in-Some.ensures.pieces c.in_ok-push_line.ensures.pairs.0
      c.in_ok-push_line.ensures.pairs.1);
  few = omega (arith, c.in-Some.ensures.less, c.loop-line.invariant.few);
}

pub returns-in_err-push_line-clause-pairs : goal.returns-in_err-push_line-clause-pairs
returns-in_err-push_line-clause-pairs c =
    let p = err_from_is_err_and c.from_residual.result c.from_residual.ensures.1 in
    rw (p.1, p.2)
    (λ known. stopped line_read c.args.is_long c.loop-line.done c.loop-line.rest.now (map ids_of_pair c.loop-line.pairs.items) _
    c.loop-line.invariant.read c.in-Some.line.now c.in-Some.others.now c.in-Some.ensures.pieces c.in_err-push_line.field-0.0
    (c.in_err-push_line.ensures.fault known))

pub returns-in_err-test_end-clause-pairs : goal.returns-in_err-test_end-clause-pairs
returns-in_err-test_end-clause-pairs c =
    let p = err_from_is_err_and c.from_residual-in_err-test_end.result c.from_residual-in_err-test_end.ensures.1 in
    rw (p.1, p.2)
    (λ known. cut_off line_read c.args.is_long c.loop-line.done c.loop-line.rest.now (map ids_of_pair c.loop-line.pairs.items) _
    c.loop-line.invariant.read c.in_default.ensures.pieces c.in_err-test_end.field-0.0 c.in_err-test_end.ensures.end)

pub returns-clause-pairs : goal.returns-clause-pairs
returns-clause-pairs c =
    ended line_read c.args.is_long c.loop-line.done c.loop-line.rest.now (map ids_of_pair c.loop-line.pairs.items) _
    c.loop-line.invariant.read c.in_default.ensures.pieces c.in_ok-test_end.ensures.end
