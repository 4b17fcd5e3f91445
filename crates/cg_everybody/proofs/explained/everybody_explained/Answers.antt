use Rattle.std.proofs.Common.{◌∙◌, ◌++◌, ap, sym, take}
use Rattle.std.specs.List.{flat_map}
use Rattle.cg_advice.proofs.Gathering.{flat_more}
use Rattle.cg_everybody.specs.Everybody.{everybody_of}
use Rattle.cg_everybody.specs.Explained.{subtree_explained}
use Rattle.cg_everybody.proofs.Walked.{taken_more}
use Rattle.cg_everybody.proofs.explained.everybody_explained.Goals as goal

pub loop-subtree-preserved : goal.loop-subtree-preserved
loop-subtree-preserved g c =
    let each = subtree_explained (g.H.Hierarchy.state c.args.tree.now) (everybody_of c.args.asked.now) in
    let subtree = c.subtree-item.result in
    c.in_ok-push_subtree.ensures ∙ ap (λ text. text ++ each subtree) c.loop-subtree.invariant
    ∙ sym (flat_more each (take c.loop-subtree.subtree-index c.args.subtrees.now) subtree)
    ∙ ap (flat_map each)
    (sym (taken_more c.args.subtrees.now c.loop-subtree.subtree-index subtree c.loop-subtree-test.true c.subtree-item.is))
