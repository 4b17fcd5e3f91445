use Rattle.std.proofs.Common.{find, subst, ap, ◌≡◌, ◌∙◌, List, Option}
use Rattle.std.specs.Result.{IfOk}
use Rattle.cg_cgroup.specs.Paths.{inside}
use Rattle.cg_model.specs.declared.operation.Op.{Op}
use Rattle.cg_tries.specs.Finding.{leads_out, first_given, move_of}
use Rattle.cg_tries.proofs.Receivers.{first_left_to, first_entered_at}
use Rattle.cg_tries.proofs.move_tries.first_move.Goals as goal

pub returns : goal.returns
returns g c =
    let st = g.H.Hierarchy.state c.args.asker.now.tree.now in
    let user = c.args.asker.now.user.now in
    let subtree = c.args.asker.now.subtree.now in
    let out = c.first_to_leave_to-out.ensures ∙ ap (find (leads_out st user subtree)) c.requires.places ∙ first_left_to st user subtree in
    let into = c.first_to_enter_at-into.ensures ∙ ap (find (inside subtree)) c.requires.places ∙ first_entered_at st user subtree in
    subst (λ (moved : Option (List Op)). IfOk c.first_moved.result (λ found. found ≡ moved))
    (λ i. first_given (move_of st user subtree (out i) (into i)) (c.requires.pids i)) c.first_moved.ensures
