use Rattle.std.proofs.Common.{◌≡◌, true, false, [], get_or, sym, ap, ◌∙◌, subst, arith}
use Rattle.cg_model.specs.Guards.{IsSubtree}
use Rattle.cg_second.specs.Judged.{second_row}
use Rattle.cg_second.proofs.Closing.{shut-more, open-found, all-of}
use Rattle.cg_second.proofs.Staying.{same_default}
use Rattle.cg_second.proofs.row.hold_on.Goals as goal

pub holds_on-requires : goal.holds_on-requires
holds_on-requires g c = record {
  survey = c.requires.survey;
  subtree =
      subst (IsSubtree (g.H.Hierarchy.state c.args.survey.now.tree.now)) (sym c.subtree-item.is)
      (c.requires.subtrees c.loop-subtree.subtree-index c.subtree-item.result c.loop-subtree-test.true);
}

pub returns-then-not-holds : goal.returns-then-not-holds
returns-then-not-holds g c =
    let s = c.args.survey.now in
    let subtrees = c.args.subtrees.now in
    let at = c.loop-subtree.subtree-index in
    let row = second_row (g.H.Hierarchy.state s.tree.now) s.users.now in
    let fails : row (get_or subtrees at []) ≡ false =
    ap row (same_default subtrees at [] c.subtree-item.result c.loop-subtree-test.true ∙ sym c.subtree-item.is) ∙ sym c.in_ok-holds.ensures
    ∙ c.if-not-holds.true in
    open-found row subtrees at c.loop-subtree-test.true fails

pub loop-subtree-preserved : goal.loop-subtree-preserved
loop-subtree-preserved g c =
    let s = c.args.survey.now in
    let subtrees = c.args.subtrees.now in
    let at = c.loop-subtree.subtree-index in
    let row = second_row (g.H.Hierarchy.state s.tree.now) s.users.now in
    let passes : row (get_or subtrees at []) ≡ true =
    ap row (same_default subtrees at [] c.subtree-item.result c.loop-subtree-test.true ∙ sym c.subtree-item.is) ∙ sym c.in_ok-holds.ensures
    ∙ c.if-not-holds.false in
    shut-more row subtrees at c.loop-subtree-test.true c.loop-subtree.invariant passes

pub returns : goal.returns
returns g c =
    let s = c.args.survey.now in
    sym (all-of (second_row (g.H.Hierarchy.state s.tree.now) s.users.now) c.args.subtrees.now c.loop-subtree.subtree-index
    (omega (arith, c.loop-subtree-test.false)) c.loop-subtree.invariant)
