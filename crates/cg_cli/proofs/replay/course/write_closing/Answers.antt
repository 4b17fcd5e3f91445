use Rattle.std.proofs.Common.{sym, subst}
use Rattle.std.proofs.KnownBytes.{Keeps-refl}
use Rattle.cg_cli.specs.Courses.{closing}
use Rattle.cg_cli.specs.Reports.{Report, Reports}
use Rattle.cg_faults.specs.declared.fault.CliFault.TheVariants.{NoMemory}
use Rattle.cg_cli.proofs.Closings.{closing_takes}
use Rattle.cg_cli.proofs.ReportLaws.{handed_on}
use Rattle.cg_cli.proofs.replay.course.write_closing.Goals as goal

pub returns-in_err-said : goal.returns-in_err-said
returns-in_err-said g c =
    let course = g.C.OnCourse.course c.args.course.now in
    let known = g.W.Write.contents c.args.out.now in
    handed_on (Reports (closing c.args.format course) known known) NoMemory c.from_residual.result c.from_residual.ensures.1
    (closing_takes c.args.format course, Keeps-refl known)

pub returns : goal.returns
returns g c =
    subst (λ (r : Report). Reports r (g.W.Write.contents c.args.out.now) (g.W.Write.contents c.write_said.new.out) c.write_said.result)
    (sym c.in_ok-said.ensures) c.write_said.ensures
