use Rattle.std.proofs.Common.{ap, sym, ◌∙◌}
use Rattle.std.specs.Prelude.{is_none}
use Rattle.cg_advice.specs.AdviceLines.{is_pair_guarded}
use Rattle.cg_advice.specs.Ways.{pair_of}
use Rattle.cg_advice.proofs.Gathering.{all_more, one_fails, none_said}
use Rattle.cg_advice.proofs.text.are_guarded.Goals as goal

pub loop-pair-preserved : goal.loop-pair-preserved
loop-pair-preserved g c =
    all_more (is_pair_guarded (g.H.Hierarchy.state c.args.tree.now)) pair_of c.args.pairs.now c.loop-pair.pair-index c.pair-item.result
    c.loop-pair-test.true c.pair-item.is c.loop-pair.invariant
    (ap is_none (sym c.failed_guard.ensures) ∙ none_said _ _ c.if-is_some.ensures)

pub returns-then-is_some : goal.returns-then-is_some
returns-then-is_some g c =
    sym (one_fails (is_pair_guarded (g.H.Hierarchy.state c.args.tree.now)) pair_of c.args.pairs.now c.loop-pair.pair-index
    c.pair-item.result c.loop-pair-test.true c.pair-item.is
    (ap is_none (sym c.failed_guard.ensures) ∙ none_said _ _ c.if-is_some.ensures))
