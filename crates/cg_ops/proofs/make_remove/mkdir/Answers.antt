use Rattle.std.proofs.Common.{◌≡◌, sym, ap, subst, ◌∙◌, Some, is_some, true≢false}
use Rattle.std.specs.Prelude.{OnOk}
use Rattle.cg_cgroup.specs.Paths.{parent}
use Rattle.cg_cgroup.specs.Cgroups.{cgroup_made_by}
use Rattle.cg_model.specs.WellFormed.{enabled_at}
use Rattle.cg_model.proofs.FormedParts.{enabled_at-row}
use Rattle.cg_model.proofs.Allowed.{allowed_mkdir, formed_mkdir}
use Rattle.cg_model.proofs.Prefixes.{take_parent}
use Rattle.cg_model.specs.States.{row_at, with_row}
use Rattle.cg_ops.proofs.make_remove.mkdir.Goals as goal

pub add-requires-clause-keeps : goal.add-requires-clause-keeps
add-requires-clause-keeps g c =
    let st = g.H.Hierarchy.state c.args.tree.now in
    formed_mkdir st c.args.user.now c.args.path.now c.parent_len.result c.in-Some.parent.now _ c.requires c.get.ensures.formed
    c.parent_len.ensures (sym c.in-Some.ensures.row) c.made_by-cgroup.ensures

pub unreachable-requires : goal.unreachable-requires
unreachable-requires g c =
    let st = g.H.Hierarchy.state c.args.tree.now in
    let above = (allowed_mkdir st c.args.user.now c.args.path.now c.requires).2 in
    true≢false (sym above ∙ ap (λ p. is_some (row_at st p)) (sym (take_parent c.args.path.now c.parent_len.result c.parent_len.ensures))
    ∙ ap is_some (sym c.in_default.ensures.row))

pub returns-clause-ok : goal.returns-clause-ok
returns-clause-ok g c =
    let st = g.H.Hierarchy.state c.args.tree.now in
    let path = c.args.path.now in
    let user = c.args.user.now in
    let above : row_at st (parent path) ≡ Some c.in-Some.parent.now =
    ap (row_at st) (sym (take_parent path c.parent_len.result c.parent_len.ensures)) ∙ sym c.in-Some.ensures.row in
    let made : c.made_by-cgroup.result ≡ cgroup_made_by user (enabled_at st (parent path)) =
    c.made_by-cgroup.ensures ∙ ap (cgroup_made_by user) (sym (enabled_at-row st (parent path) c.in-Some.parent.now above)) in
    subst (λ row. OnOk c.add.result (g.H.Hierarchy.state c.add.new.self ≡ with_row st path row)) made c.add.ensures.ok
