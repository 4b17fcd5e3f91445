use Rattle.std.proofs.Common.{[], Ok, sym, rules}
use Rattle.cg_cgroup.specs.Identity.{Identity}
use Rattle.cg_cgroup.specs.Paths.{Names}
use Rattle.cg_model.specs.States.{State}
use Rattle.cg_cli.specs.Containment.{asked_report}
use Rattle.cg_cli.specs.Reports.{Report}
use Rattle.cg_cli.proofs.Asked.{some_said, said_of_read, fault_said}
use Rattle.cg_cli.proofs.CheckReports.{path_fault_said, tree_fault_said, of_bytes}
use Rattle.cg_cli.proofs.ReportLaws.{said_status}
use Rattle.cg_cli.proofs.StrangerLaws.{alone_said}
use Rattle.cg_cli.proofs.ReadingOf.{reading_of, is_reading, reading_is, on_text}
use Rattle.cg_model.specs.Held.{IsContained}
use Rattle.cg_cli.proofs.question.ask.Goals as goal

pub returns-in_err-user-clause-report : goal.returns-in_err-user-clause-report
returns-in_err-user-clause-report g c =
    let one : State → Identity → Names → Report = λ st who path. (c.requires st who path).0 in
    on_text c.args.tree.now (λ read is. (
      asked_report one read c.args.user.uid c.args.user.gids.now c.args.subtree.now,
      some_said read c.args.user.uid c.args.user.gids.now c.args.subtree.now (g.Q.Question.says c.args.question.now) one
          (λ st who path. (c.requires st who path).1),
      search rules,
    ))

pub returns-in_err-subtree-clause-report : goal.returns-in_err-subtree-clause-report
returns-in_err-subtree-clause-report g c =
    let user = c.in_ok-user.user in
    let one : State → Identity → Names → Report = λ st who path. (c.requires st who path).0 in
    on_text c.args.tree.now (λ read is. (
      asked_report one read c.args.user.uid c.args.user.gids.now c.args.subtree.now,
      some_said read c.args.user.uid c.args.user.gids.now c.args.subtree.now (g.Q.Question.says c.args.question.now) one
          (λ st who path. (c.requires st who path).1),
      path_fault_said read c.args.user.uid c.args.user.gids.now c.args.subtree.now user [] (sym {a = Ok user} c.in_ok-user.ensures)
          one (λ st at. (c.requires st user at).2) c.in_err-subtree.field-0.0 c.in_err-subtree.ensures
          (g.W.Write.contents c.args.out.now) c.from_residual-in_err-subtree.result c.from_residual-in_err-subtree.ensures.1,
    ))

pub returns-in_err-tree-clause-report : goal.returns-in_err-tree-clause-report
returns-in_err-tree-clause-report g c =
    let user = c.in_ok-user.user in
    let path = c.in_ok-subtree.subtree in
    let one : State → Identity → Names → Report = λ st who path. (c.requires st who path).0 in
    on_text c.args.tree.now (λ read is. (
      asked_report one read c.args.user.uid c.args.user.gids.now c.args.subtree.now,
      some_said read c.args.user.uid c.args.user.gids.now c.args.subtree.now (g.Q.Question.says c.args.question.now) one
          (λ st who path. (c.requires st who path).1),
      tree_fault_said read c.args.user.uid c.args.user.gids.now c.args.subtree.now user path (sym {a = Ok user} c.in_ok-user.ensures)
          c.in_ok-subtree.ensures one (λ st. (c.requires st user path).2)
          c.in_err-tree.field-0.0 (c.in_err-tree.ensures.read read is) (g.W.Write.contents c.args.out.now)
          c.from_residual-in_err-tree.result c.from_residual-in_err-tree.ensures.1,
    ))

pub returns-in_err-said-clause-report : goal.returns-in_err-said-clause-report
returns-in_err-said-clause-report g c =
    let user = c.in_ok-user.user in
    let path = c.in_ok-subtree.subtree in
    on_text c.args.tree.now (λ read is.
    fault_said read c.args.user.uid c.args.user.gids.now c.args.subtree.now (g.Q.Question.says c.args.question.now) user path
    c.in_ok-tree.tree (sym {a = Ok user} c.in_ok-user.ensures) c.in_ok-subtree.ensures (c.in_ok-tree.ensures.read read is)
    (c.requires c.in_ok-tree.tree user path) c.in_err-said.field-0.0 c.in_err-said.ensures.said (g.W.Write.contents c.args.out.now)
    c.from_residual-in_err-said.result c.from_residual-in_err-said.ensures.1)

pub returns-clause-report : goal.returns-clause-report
returns-clause-report g c =
    let user = c.in_ok-user.user in
    on_text c.args.tree.now (λ read is. (
      record { text = c.in_ok-said.said.0.items; ending = Ok c.in_ok-said.said.1 },
      said_of_read read c.args.user.uid c.args.user.gids.now c.args.subtree.now (g.Q.Question.says c.args.question.now) user
          c.in_ok-subtree.subtree c.in_ok-tree.tree (sym {a = Ok user} c.in_ok-user.ensures) c.in_ok-subtree.ensures
          (c.in_ok-tree.ensures.read read is) (record { text = c.in_ok-said.said.0.items; ending = Ok c.in_ok-said.said.1 })
          c.in_ok-said.ensures.said,
      c.write_said.ensures,
    ))

pub returns-clause-contained : goal.returns-clause-contained
returns-clause-contained g c none st who path of_text of_user of_path =
    let bytes = c.args.tree.now in
    let user = c.in_ok-user.user in
    of_bytes (reading_of bytes) c.args.user.uid c.args.user.gids.now c.args.subtree.now user c.in_ok-subtree.subtree c.in_ok-tree.tree
    (sym {a = Ok user} c.in_ok-user.ensures) c.in_ok-subtree.ensures (c.in_ok-tree.ensures.read (reading_of bytes) (is_reading bytes))
    IsContained (c.in_ok-said.ensures.contained (said_status _ _ _ _ _ 0 c.write_said.ensures none)) st who path
    (reading_is bytes (Ok st) of_text) of_user of_path

pub returns-clause-stranger : goal.returns-clause-stranger
returns-clause-stranger g c =
    let user = c.in_ok-user.user in
    alone_said c.args.tree.now c.args.user.uid c.args.user.gids.now user c.in_ok-tree.tree (sym {a = Ok user} c.in_ok-user.ensures)
    c.in_ok-tree.ensures.read _ c.if_stranger.ensures _
