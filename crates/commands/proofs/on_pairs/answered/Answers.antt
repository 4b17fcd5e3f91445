use Rattle.std.proofs.Common.{◌∙◌, map, ap, sym, Ok}
use Rattle.arguments.specs.Given.{ids_of_pair}
use Rattle.cg_cli.specs.Pairs.{pair_given}
use Rattle.std.proofs.lemmas.Result.{err_from_is_err_and}
use Rattle.commands.specs.PairLines.{pairs_read}
use Rattle.commands.proofs.LineLaws.{memory_said, fault_said, lines_answered}
use Rattle.commands.proofs.on_pairs.answered.Goals as goal

pub returns-in-Err : goal.returns-in-Err
returns-in-Err g c =
    fault_said pairs_read (g.C.OnPairs.answers c.args.asked.now) c.args.tree.now c.args.text.now c.in-Err.fault c.in-Err.ensures.read
    c.in-Err.ensures.pairs (g.W.Write.contents c.args.out.now)

pub returns-in_ok-pairs-in-Ok : goal.returns-in_ok-pairs-in-Ok
returns-in_ok-pairs-in-Ok g c =
    lines_answered pairs_read (g.C.OnPairs.answers c.args.asked.now) c.args.tree.now c.args.text.now
    (map pair_given c.as_slice-in-Ok.result.now)
    (g.W.Write.contents c.args.out.now) (g.W.Write.contents c.answer.new.out) c.answer.result
    (c.in-Ok.ensures.pairs
    ∙ ap Ok (sym (ap (map pair_given) c.as_slice-in-Ok.ensures.value ∙ c.in_ok-pairs-in-Ok.ensures.pairs
    ∙ ap (map ids_of_pair) c.as_slice.ensures.value)))
    c.answer.ensures

-- there was no memory for the pairs as a call takes them
pub returns-in_err-pairs-in-Ok : goal.returns-in_err-pairs-in-Ok
returns-in_err-pairs-in-Ok g c =
    let p = err_from_is_err_and c.from_residual.result c.from_residual.ensures.1 in
    rw (p.1, p.2, c.in_err-pairs-in-Ok.ensures.fault)
    (memory_said pairs_read (g.C.OnPairs.answers c.args.asked.now) c.args.tree.now c.args.text.now (g.W.Write.contents c.args.out.now))
