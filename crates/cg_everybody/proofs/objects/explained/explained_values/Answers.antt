use Rattle.std.proofs.Common.{[]}
use Rattle.cg_advice.proofs.Gathering.{one_more}
use Rattle.cg_json.proofs.Pushed.{pushed}
use Rattle.serde_json.specs.View.{view}
use Rattle.cg_everybody.specs.Everybody.{everybody_of}
use Rattle.cg_everybody.specs.Objects.{subtree_explained_value}
use Rattle.cg_everybody.proofs.objects.explained.explained_values.Goals as goal

pub loop-subtree-preserved : goal.loop-subtree-preserved
loop-subtree-preserved g c =
    let value = subtree_explained_value (g.H.Hierarchy.state c.args.tree.now) (everybody_of c.args.asked.now) in
    let subtrees = c.args.subtrees.now in
    let place = c.loop-subtree.subtree-index in
    pushed view value [] c.loop-subtree.list.items c.push.new.self.items c.in_ok-value.value subtrees c.subtree-item.result place
    c.in_ok-push.ensures.items c.loop-subtree.invariant c.in_ok-value.ensures
    (one_more value subtrees place c.subtree-item.result c.loop-subtree-test.true c.subtree-item.is)
