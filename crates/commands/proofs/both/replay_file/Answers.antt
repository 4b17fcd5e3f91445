use Rattle.std.proofs.Common.{inr}
use Rattle.cg_cli.proofs.ReadingOf.{reading_of, is_reading}
use Rattle.commands.proofs.RequestLaws.{unread_by}
use Rattle.commands.proofs.both.replay_file.Goals as goal

pub returns-in_err-ops : goal.returns-in_err-ops
returns-in_err-ops g c = (
  reading_of c.args.tree.now,
  is_reading c.args.tree.now,
  inr (unread_by (g.W.Write.contents c.args.out.now) c.in_err-ops.field-0.0 c.from_residual.result c.from_residual.ensures.1
      c.in_err-ops.ensures.fault),
)

pub returns : goal.returns
returns g c = rw c.in_ok-ops.ensures.file at c.replayed.ensures
