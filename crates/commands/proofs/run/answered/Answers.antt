use Rattle.std.proofs.Common.{map}
use Rattle.std.specs.Prelude.{string_bytes}
use Rattle.std.specs.Io.Buffered.{writer_contents}
use Rattle.commands.proofs.BesideLaws.{beside_of}
use Rattle.commands.proofs.RunLaws.{leads, leads_nowhere, tells}
use Rattle.commands.proofs.run.answered.Goals as goal

pub returns-in-Err-clause-leads : goal.returns-in-Err-clause-leads
returns-in-Err-clause-leads g c =
    rw c.from.ensures
    (leads_nowhere (map string_bytes c.args.line.words.now) (g.F.Files.given c.args.files.now) (g.I.Read.remaining c.args.input)
    (writer_contents g.W.Write.contents c.args.report.now) c.in-Err.fault c.in-Err.ensures)

pub returns-in-Ok-clause-leads : goal.returns-in-Ok-clause-leads
returns-in-Ok-clause-leads g c =
    rw c.in_program.ensures
    (leads (map string_bytes c.args.line.words.now) (g.F.Files.given c.args.files.now) (g.I.Read.remaining c.args.input)
    (writer_contents g.W.Write.contents c.args.report.now) (writer_contents g.W.Write.contents c.reported-ended.new.report)
    c.in-Ok.request c.reported-ended.result.0 c.in-Ok.ensures c.reported-ended.ensures.carried)

pub returns-in-Ok-clause-tells : goal.returns-in-Ok-clause-tells
returns-in-Ok-clause-tells g c =
    rw c.in_program.ensures
    (tells c.reported-ended.result.0 c.reported-ended.result.1 c.reported-ended.ensures.status c.reported-ended.ensures.failed)

pub returns-in-Ok-clause-beside : goal.returns-in-Ok-clause-beside
returns-in-Ok-clause-beside g c =
    rw c.in_program.ensures
    (beside_of (map string_bytes c.args.line.words.now) (g.F.Files.given c.args.files.now) (g.I.Read.remaining c.args.input) c.in-Ok.request
    c.reported-ended.result.0 c.reported-ended.new.noted.beside c.in-Ok.ensures c.reported-ended.ensures.noted)
