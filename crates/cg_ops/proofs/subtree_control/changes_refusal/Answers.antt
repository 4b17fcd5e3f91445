use Rattle.std.proofs.Common.{Some, true, false, refl, sym, ap, ◌∙◌}
use Rattle.cg_cgroup.specs.Kinds.{all_controllers}
use Rattle.cg_model.specs.declared.outcome.Refusal.TheVariants.{InternalProcess}
use Rattle.cg_ops.proofs.FirstOfMapped.{here_found, none_here}
use Rattle.cg_ops.proofs.ChangesLeft.{barred_by, internal, last_asked}
use Rattle.cg_ops.proofs.subtree_control.changes_refusal.Goals as goal

pub loop-controller-init : goal.loop-controller-init
loop-controller-init g c = refl

pub returns-then-is_some : goal.returns-then-is_some
returns-then-is_some g c =
    let st = g.H.Hierarchy.state c.args.tree.now in
    here_found (barred_by st c.args.at.now c.args.changes.now c.args.cgroup.now)
    (internal st c.args.at.now c.args.changes.now c.args.cgroup.now)
    all_controllers c.loop-controller.controller-index _ c.loop-controller-test.true
    c.change_refusal-refusal.result c.change_refusal-refusal.ensures (sym c.is_some.ensures ∙ c.if-is_some.true)
    ∙ c.loop-controller.invariant

pub loop-controller-preserved : goal.loop-controller-preserved
loop-controller-preserved g c =
    let st = g.H.Hierarchy.state c.args.tree.now in
    none_here (barred_by st c.args.at.now c.args.changes.now c.args.cgroup.now)
    (internal st c.args.at.now c.args.changes.now c.args.cgroup.now)
    all_controllers c.loop-controller.controller-index _ c.loop-controller-test.true
    c.change_refusal-refusal.result c.change_refusal-refusal.ensures (sym c.is_some.ensures ∙ c.if-is_some.false)
    ∙ c.loop-controller.invariant

pub returns-then-not-may_enable_new : goal.returns-then-not-may_enable_new
returns-then-not-may_enable_new g c =
    let st = g.H.Hierarchy.state c.args.tree.now in
    ap (λ len. Some (InternalProcess len)) c.depth.ensures.depth
    ∙ last_asked st c.args.at.now c.args.changes.now c.args.cgroup.now c.loop-controller.controller-index false
    c.loop-controller-test.false (sym c.if-not-may_enable_new.true ∙ c.may_enable_new.ensures)
    ∙ c.loop-controller.invariant

pub returns : goal.returns
returns g c =
    let st = g.H.Hierarchy.state c.args.tree.now in
    last_asked st c.args.at.now c.args.changes.now c.args.cgroup.now c.loop-controller.controller-index true
    c.loop-controller-test.false (sym c.if-not-may_enable_new.false ∙ c.may_enable_new.ensures)
    ∙ c.loop-controller.invariant
