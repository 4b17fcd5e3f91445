use Rattle.cg_cli.specs.Formats.{first_in}
use Rattle.cg_cli.proofs.FirstPairs.{first_takes}
use Rattle.cg_cli.proofs.SettledPairs.{first_stops, first_reports}
use Rattle.cg_cli.proofs.audit_settle.FirstPairNamedQuestion.answer.Goals as goal

pub returns-in_err-said : goal.returns-in_err-said
returns-in_err-said g c =
    first_stops (first_in c.args.self.now.format) (first_takes c.args.self.now.format) (g.H.Hierarchy.state c.args.tree.now)
    c.args.users.now c.args.subtrees.now c.in_err-said.field-0.0 c.in_err-said.ensures (g.W.Write.contents c.args.out.now)
    c.from_residual.result c.from_residual.ensures.1

pub returns : goal.returns
returns g c =
    first_reports (first_in c.args.self.now.format) (first_takes c.args.self.now.format) (g.H.Hierarchy.state c.args.tree.now)
    c.args.users.now c.args.subtrees.now _ c.in_ok-said.ensures (g.W.Write.contents c.args.out.now)
    (g.W.Write.contents c.write_said.new.out) c.write_said.result c.write_said.ensures
