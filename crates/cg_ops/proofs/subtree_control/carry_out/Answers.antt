use Rattle.std.proofs.Common.{sym, subst, ap, ◌∙◌, is_some, true≢false}
use Rattle.cg_model.specs.States.{row_at, with_enabled}
use Rattle.cg_model.specs.Changes.{enabled_after}
use Rattle.cg_model.specs.WellFormed.{MayEnable}
use Rattle.cg_model.proofs.Allowed.{there_control}
use Rattle.cg_model.proofs.AllowedControl.{allowed_control}
use Rattle.cg_model.proofs.FormedParts.{enabled_at-row}
use Rattle.cg_model.proofs.Prefixes.{take_whole}
use Rattle.cg_ops.proofs.subtree_control.carry_out.Goals as goal

pub set_enabled-requires-clause-keeps : goal.set_enabled-requires-clause-keeps
set_enabled-requires-clause-keeps g c =
    let st = g.H.Hierarchy.state c.args.tree.now in
    let at = c.args.at.now in
    let is = ap (row_at st) (sym (take_whole at c.depth.result c.depth.ensures.depth)) ∙ sym c.in-Some.ensures.row in
    subst (MayEnable st at) (sym c.enabled_after-enabled.ensures)
    (allowed_control st c.args.user.now at c.args.changes.now c.in-Some.cgroup.now c.requires c.get.ensures.formed is)

pub unreachable-requires : goal.unreachable-requires
unreachable-requires g c =
    let st = g.H.Hierarchy.state c.args.tree.now in
    let at = c.args.at.now in
    true≢false (sym (there_control st c.args.user.now at c.args.changes.now c.requires)
    ∙ ap (λ p. is_some (row_at st p)) (sym (take_whole at c.depth.result c.depth.ensures.depth))
    ∙ ap is_some (sym c.in_default.ensures.row))

pub returns : goal.returns
returns g c =
    let st = g.H.Hierarchy.state c.args.tree.now in
    let at = c.args.at.now in
    let is = ap (row_at st) (sym (take_whole at c.depth.result c.depth.ensures.depth)) ∙ sym c.in-Some.ensures.row in
    c.set_enabled.ensures
    ∙ ap (λ enabled. with_enabled st at enabled c.args.user.now) (c.enabled_after-enabled.ensures
    ∙ ap (λ enabled. enabled_after enabled c.args.changes.now) (sym (enabled_at-row st at c.in-Some.cgroup.now is)))
