use Rattle.std.proofs.Common.{sym, ap, ◌∙◌, Ok}
use Rattle.std.proofs.lemmas.Result.{err_from_is_err_and}
use Rattle.cg_cli.specs.Arguments.{path_read}
use Rattle.cg_cli.specs.Pairs.{pair_given}
use Rattle.cg_cli.proofs.EachRead.{read_more, read_stops}
use Rattle.cg_cli.proofs.pairs.subtrees_of.Goals as goal

pub returns-in_err-read_path : goal.returns-in_err-read_path
returns-in_err-read_path c =
    let p = err_from_is_err_and c.from_residual.result c.from_residual.ensures.1 in
    rw (p.1, p.2)
    (λ known. read_stops path_read (λ pair. (pair_given pair).1) c.args.pairs.now c.loop-pair.pair-index _
    c.loop-pair.subtrees.items c.in_err-read_path.field-0.0 c.loop-pair-test.true c.loop-pair.invariant (c.in_err-read_path.ensures known))

pub loop-pair-preserved : goal.loop-pair-preserved
loop-pair-preserved c =
    read_more path_read (λ pair. (pair_given pair).1) c.args.pairs.now c.loop-pair.pair-index _
    c.loop-pair.subtrees.items c.in_ok-read_path.field-0 c.loop-pair-test.true c.loop-pair.invariant c.in_ok-read_path.ensures
    ∙ ap Ok (sym c.in_ok-push.ensures.items)
