use Rattle.std.proofs.Common.{ap, sym, subst}
use Rattle.cg_everybody.specs.Everybody.{everybody_of}
use Rattle.cg_cli.specs.Containment.{in_call}
use Rattle.cg_cli.specs.Everybody.{found_report_in, everybody_said_in}
use Rattle.cg_cli.specs.Reports.{Report, Reports, report_on}
use Rattle.cg_cli.proofs.EverybodyReports.{everybody_takes}
use Rattle.cg_cli.proofs.ReportLaws.{subtree_fault}
use Rattle.cg_cli.proofs.everybody.QuestionNamedQuestion.answer.Goals as goal

pub returns-in_err-said : goal.returns-in_err-said
returns-in_err-said g c =
    let st = g.H.Hierarchy.state c.args.tree.now in
    let format = c.args.self.now.format in
    let wanted = c.args.self.now.wanted in
    let asked = everybody_of c.args.self.now.asked.now in
    let subtrees = c.args.subtrees.now in
    subtree_fault (everybody_said_in format wanted asked st subtrees) (everybody_takes format wanted asked st subtrees)
    c.in_err-said.field-0.0
    (λ other. ap (λ found. report_on (in_call found) (found_report_in format wanted asked st subtrees)) (c.in_err-said.ensures other))
    (g.W.Write.contents c.args.out.now) c.from_residual.result c.from_residual.ensures.1

pub returns : goal.returns
returns g c =
    subst (λ (r : Report). Reports r (g.W.Write.contents c.args.out.now) (g.W.Write.contents c.write_said.new.out) c.write_said.result)
    (sym c.in_ok-said.ensures) c.write_said.ensures
