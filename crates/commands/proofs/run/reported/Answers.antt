use Rattle.commands.specs.Beside.{IsNotedFor}
use Rattle.commands.proofs.BesideLaws.{flushed_keeps}
use Rattle.commands.proofs.BufferedLaws.{CarriesOut-Keeps}
use Rattle.commands.proofs.run.reported.Goals as goal

pub returns-clause-carried : goal.returns-clause-carried
returns-clause-carried g c = (
  c.carried_out-ended.result,
  CarriesOut-Keeps c.args.request.now (g.F.Files.given c.args.files.now) _ _ _ _ c.carried_out-ended.result
      c.carried_out-ended.ensures.answer c.flushed.ensures.kept,
  c.flushed.ensures.ended,
)

pub returns-clause-noted : goal.returns-clause-noted
returns-clause-noted g c =
    flushed_keeps
    (IsNotedFor c.args.request.now (g.F.Files.given c.args.files.now) (g.I.Read.remaining c.args.input)
    c.carried_out-ended.new.noted.beside)
    c.carried_out-ended.result c.flushed.result.0 c.flushed.ensures.ended c.carried_out-ended.ensures.noted
