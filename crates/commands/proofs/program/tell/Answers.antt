use Rattle.std.specs.Prelude.{Ok}
use Rattle.commands.proofs.RequestLaws.{Keeps-refl}
use Rattle.commands.proofs.program.tell.Goals as goal

pub returns-in-Err : goal.returns-in-Err
returns-in-Err g c = (
  g.E.Write.contents c.print.new.out,
  Ok c.in_ok-print.field-0,
  c.in_ok-print.ensures,
  Keeps-refl (g.E.Write.contents c.print.new.out),
)
