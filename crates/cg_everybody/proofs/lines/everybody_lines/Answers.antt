use Rattle.std.proofs.Common.{◌∙◌, subst, sym}
use Rattle.cg_everybody.specs.Everybody.{everybody_of}
use Rattle.cg_everybody.specs.Entrances.{AreDoorsAbove}
use Rattle.cg_everybody.proofs.Walked.{one_more}
use Rattle.cg_everybody.proofs.lines.everybody_lines.Goals as goal

pub loop-subtree-init : goal.loop-subtree-init
loop-subtree-init g c = (
  c.new-text.ensures.items,
  subst (λ last. AreDoorsAbove (g.H.Hierarchy.state c.args.tree.now) (everybody_of c.args.asked.now) last c.new-walk.result.doors.items)
      (sym c.new-walk.ensures.last) c.new-walk.ensures.doors,
)

pub loop-subtree-preserved : goal.loop-subtree-preserved
loop-subtree-preserved g c = (
  one_more (g.H.Hierarchy.state c.args.tree.now) (everybody_of c.args.asked.now) c.args.subtrees.now c.loop-subtree.subtree-index
      c.subtree-item.result
      c.loop-subtree.text.items c.push_headed.new.text.items c.as_slice.result.now c.loop-subtree-test.true c.subtree-item.is
      c.loop-subtree.invariant.0 (c.as_slice.ensures.value ∙ c.in_ok-found.ensures.lines) c.in_ok-push_headed.ensures,
  c.in_ok-found.ensures.walked,
)
