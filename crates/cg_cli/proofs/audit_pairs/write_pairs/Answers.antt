use Rattle.std.proofs.Common.{sym, subst, arith}
use Rattle.std.proofs.lemmas.Result.{err_from_is_err_and}
use Rattle.cg_model.specs.Guards.{IsSubtree}
use Rattle.cg_advice.specs.declared.pair.Pair.{Pair as PairOfBoth}
use Rattle.cg_cli.proofs.AllPairs.{Front, goes_on, stops, ends}
use Rattle.cg_cli.proofs.EachPair.{pair_next, none_left}
use Rattle.cg_cli.proofs.Explaining.{faultless}
use Rattle.cg_cli.proofs.audit_pairs.write_pairs.Goals as goal

pub write_pair-requires : goal.write_pair-requires
write_pair-requires g c = record {
  there =
      faultless (g.H.Hierarchy.state c.args.tree.now) c.pair-item.result.subtree.now
      (subst (λ (pair : PairOfBoth). IsSubtree (g.H.Hierarchy.state c.args.tree.now) pair.subtree.now) (sym c.pair-item.is)
      (c.requires.there c.loop-pair.pair-index c.pair-item.result c.loop-pair-test.true));
}

pub returns-in_err-write_pair : goal.returns-in_err-write_pair
returns-in_err-write_pair g c =
    let p = err_from_is_err_and c.from_residual.result c.from_residual.ensures.1 in
    let far =
    pair_next (g.H.Hierarchy.state c.args.tree.now) c.args.pairs.now c.loop-pair.pair-index _ _ _ _ c.loop-pair.invariant
    c.pair-item.result c.loop-pair-test.true c.pair-item.is in
    rw (p.1, p.2) (stops _ _ _ _ _ _ _ _ far c.in_err-write_pair.field-0.0 c.in_err-write_pair.ensures)

pub loop-pair-preserved : goal.loop-pair-preserved
loop-pair-preserved g c =
    let far =
    pair_next (g.H.Hierarchy.state c.args.tree.now) c.args.pairs.now c.loop-pair.pair-index _ _ _ _ c.loop-pair.invariant
    c.pair-item.result c.loop-pair-test.true c.pair-item.is in
    subst (Front _ _ _ _ _) (sym c.worse-worst.ensures) (goes_on _ _ _ _ _ _ _ _ far c.in_ok-write_pair.field-0 c.in_ok-write_pair.ensures)

pub returns : goal.returns
returns g c =
    ends _ _ _ _ _ _
    (none_left (g.H.Hierarchy.state c.args.tree.now) c.args.pairs.now c.loop-pair.pair-index _ _ _ _ c.loop-pair.invariant
    (omega (arith, c.loop-pair-test.false))) c.loop-pair.invariant
