use Rattle.std.proofs.Common.{ap}
use Rattle.cg_cli.specs.Replaying.{coming}
use Rattle.cg_cli.proofs.Closings.{begun_waits, close_fault, close_said}
use Rattle.cg_cli.proofs.replay.slice_closed.Goals as goal

pub replay_slice-requires : goal.replay_slice-requires
replay_slice-requires g c = begun_waits c.new.ensures c.requires

pub returns-in_err-course : goal.returns-in_err-course
returns-in_err-course g c =
    close_fault c.args.protocol.format (ap coming c.new.ensures) c.args.ops.now (g.W.Write.contents c.args.out.now)
    (g.W.Write.contents c.replay_slice.new.out)
    c.in_err-course.field-0.0 c.in_err-course.ensures c.from_residual.result c.from_residual.ensures.1

pub returns : goal.returns
returns g c =
    close_said c.args.protocol.format (ap coming c.new.ensures) c.args.ops.now (g.W.Write.contents c.args.out.now)
    (g.W.Write.contents c.replay_slice.new.out)
    (g.C.OnCourse.course c.in_ok-course.course) c.in_ok-course.ensures (g.W.Write.contents c.write_closing.new.out)
    c.write_closing.result c.write_closing.ensures
