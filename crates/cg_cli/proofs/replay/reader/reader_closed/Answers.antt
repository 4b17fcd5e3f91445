use Rattle.std.proofs.Common.{ap}
use Rattle.cg_cli.specs.Replaying.{coming}
use Rattle.cg_cli.proofs.Closings.{begun_waits, from_close_fault, from_close_said}
use Rattle.cg_cli.proofs.replay.reader.reader_closed.Goals as goal

pub replay_reader-requires : goal.replay_reader-requires
replay_reader-requires g c = begun_waits c.new.ensures c.requires

pub returns-in_err-course : goal.returns-in_err-course
returns-in_err-course g c =
    from_close_fault c.args.protocol.format (ap coming c.new.ensures) (g.R.Read.remaining c.args.ops.now)
    (g.R.Read.remaining c.replay_reader.new.ops)
    (g.W.Write.contents c.args.out.now) (g.W.Write.contents c.replay_reader.new.out)
    c.in_err-course.field-0.0 c.in_err-course.ensures c.from_residual.result c.from_residual.ensures.1

pub returns : goal.returns
returns g c =
    from_close_said c.args.protocol.format (ap coming c.new.ensures) (g.R.Read.remaining c.args.ops.now)
    (g.R.Read.remaining c.replay_reader.new.ops)
    (g.W.Write.contents c.args.out.now) (g.W.Write.contents c.replay_reader.new.out)
    (g.C.OnCourse.course c.in_ok-course.course) c.in_ok-course.ensures (g.W.Write.contents c.write_closing.new.out)
    c.write_closing.result c.write_closing.ensures
