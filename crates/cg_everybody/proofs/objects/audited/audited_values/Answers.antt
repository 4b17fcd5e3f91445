use Rattle.std.proofs.Common.{◌∙◌, ◌++◌, ap, map, subst, sym, take}
use Rattle.std.specs.List.{flat_map}
use Rattle.cg_advice.proofs.Gathering.{flat_more}
use Rattle.serde_json.specs.View.{view}
use Rattle.cg_everybody.specs.Entrances.{AreDoorsAbove}
use Rattle.cg_everybody.specs.Everybody.{everybody_of}
use Rattle.cg_everybody.specs.Objects.{headed_values, subtree_audited}
use Rattle.cg_everybody.proofs.Walked.{taken_more}
use Rattle.cg_everybody.proofs.objects.audited.audited_values.Goals as goal

pub loop-subtree-init : goal.loop-subtree-init
loop-subtree-init g c = (
  ap (map view) c.new-list.ensures.items,
  subst (λ last. AreDoorsAbove (g.H.Hierarchy.state c.args.tree.now) (everybody_of c.args.asked.now) last c.new-walk.result.doors.items)
      (sym c.new-walk.ensures.last) c.new-walk.ensures.doors,
)

pub loop-subtree-preserved : goal.loop-subtree-preserved
loop-subtree-preserved g c =
    let each = subtree_audited (g.H.Hierarchy.state c.args.tree.now) (everybody_of c.args.asked.now) in
    let subtree = c.subtree-item.result in (
      c.in_ok-push_headed.ensures ∙ (λ i. c.loop-subtree.invariant.0 i ++ headed_values subtree (c.in_ok-found.ensures.values i))
          ∙ sym (flat_more each (take c.loop-subtree.subtree-index c.args.subtrees.now) subtree)
          ∙ ap (flat_map each)
          (sym (taken_more c.args.subtrees.now c.loop-subtree.subtree-index subtree c.loop-subtree-test.true c.subtree-item.is)),
      c.in_ok-found.ensures.walked,
    )
