use Rattle.std.proofs.Common.{sym, subst, arith}
use Rattle.std.proofs.lemmas.Result.{err_from_is_err_and}
use Rattle.cg_model.specs.Guards.{IsSubtree}
use Rattle.cg_advice.specs.declared.pair.Pair.{Pair as PairOfBoth}
use Rattle.cg_check.proofs.Pairs.{not-none}
use Rattle.cg_cli.specs.Formats.{told_in}
use Rattle.cg_cli.proofs.Explaining.{begins, pair_told_more, pair_stops, all_told}
use Rattle.cg_cli.proofs.explain.write_pairs.Goals as goal

pub loop-pair-init : goal.loop-pair-init
loop-pair-init g c = begins (told_in c.args.format) (g.H.Hierarchy.state c.args.tree.now) (g.W.Write.contents c.args.out.now)

pub write_pair-requires : goal.write_pair-requires
write_pair-requires g c = record {
  formed = c.requires.formed (not-none c.args.pairs.now c.loop-pair.pair-index c.loop-pair-test.true);
  there =
      subst (λ (pair : PairOfBoth). IsSubtree (g.H.Hierarchy.state c.args.tree.now) pair.subtree.now) (sym c.pair-item.is)
      (c.requires.there c.loop-pair.pair-index c.pair-item.result c.loop-pair-test.true);
}

pub returns-in_err-write_pair : goal.returns-in_err-write_pair
returns-in_err-write_pair g c =
    let p = err_from_is_err_and c.from_residual.result c.from_residual.ensures.1 in
    rw (p.1, p.2)
    (pair_stops (told_in c.args.format) (g.H.Hierarchy.state c.args.tree.now) c.args.pairs.now c.loop-pair.pair-index c.pair-item.result
    c.loop-pair-test.true c.pair-item.is _ _ _ c.loop-pair.worst c.loop-pair.invariant c.in_err-write_pair.field-0.0
    c.in_err-write_pair.ensures)

pub loop-pair-preserved : goal.loop-pair-preserved
loop-pair-preserved g c =
    pair_told_more (told_in c.args.format) (g.H.Hierarchy.state c.args.tree.now) c.args.pairs.now c.loop-pair.pair-index
    c.pair-item.result c.loop-pair-test.true c.pair-item.is _ _ _ c.loop-pair.worst c.loop-pair.invariant c.in_ok-write_pair.field-0
    c.worse-worst.result c.worse-worst.ensures c.in_ok-write_pair.ensures

pub returns : goal.returns
returns g c =
    all_told (told_in c.args.format) (g.H.Hierarchy.state c.args.tree.now) c.args.pairs.now c.loop-pair.pair-index
    (omega (arith, c.loop-pair-test.false)) _ _
    c.loop-pair.worst c.loop-pair.invariant
