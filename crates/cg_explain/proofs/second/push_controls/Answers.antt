use Rattle.std.proofs.Common.{◌++◌, [], ◌∷◌, cond, get_or, sym, ap, ◌∙◌, append-nil, arith}
use Rattle.cg_cgroup.specs.Files.{all_controllers}
use Rattle.cg_cgroup.specs.declared.files.Controller.TheVariants.{Cpuset}
use Rattle.cg_model.specs.Tries.{is_told, told_controllers}
use Rattle.cg_explain.specs.SecondRow.{control_asked}
use Rattle.cg_explain.specs.declared.second.Asked.TheVariants.{Control}
use Rattle.cg_explain.proofs.Told.{written_more, written_whole}
use Rattle.cg_explain.proofs.second.push_controls.Goals as goal
use Rattle.cg_explain.proofs.second.push_controls.Goals.{then-is_told+in_ok-push, else-is_told}

pub loop-controller-preserved : goal.loop-controller-preserved
loop-controller-preserved g c =
    let s = c.args.survey.now in
    let st = g.H.Hierarchy.state s.tree.now in
    let at = c.loop-controller.controller-index in
    let controller = get_or all_controllers at Cpuset in
    let had = c.loop-controller.row.items in
    written_more (is_told st) (control_asked st s.users.now c.args.subtree.now) all_controllers at Cpuset c.loop-controller-test.true
    c.args.row.now.items had c.if-is_told.row.items c.loop-controller.invariant
    (elim c.if-is_told.branch [
      | then-is_told+in_ok-push w ↦
          ap (λ row. row.items) w.row-is ∙ w.in_ok-push.ensures.items
          ∙ ap (λ how. had ++ Control controller how ∷ []) w.why_control-how.ensures
          ∙ ap (λ b. had ++ cond b (control_asked st s.users.now c.args.subtree.now controller ∷ []) [])
          (sym (sym c.is_told.ensures ∙ w.if-is_told.true))
      | else-is_told w ↦
          ap (λ row. row.items) w.row-is ∙ sym (append-nil had)
          ∙ ap (λ b. had ++ cond b (control_asked st s.users.now c.args.subtree.now controller ∷ []) [])
          (sym (sym c.is_told.ensures ∙ w.if-is_told.false))
    ])

pub returns : goal.returns
unfolding told_controllers
returns g c =
    let s = c.args.survey.now in
    let st = g.H.Hierarchy.state s.tree.now in
    written_whole (is_told st) (control_asked st s.users.now c.args.subtree.now) all_controllers c.loop-controller.controller-index
    (omega (arith, c.loop-controller-test.false)) c.args.row.now.items c.loop-controller.row.items c.loop-controller.invariant
