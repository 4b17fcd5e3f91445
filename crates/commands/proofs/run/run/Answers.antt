use Rattle.std.proofs.Common.{map}
use Rattle.std.specs.Prelude.{string_bytes}
use Rattle.commands.proofs.RunLaws.{ran}
use Rattle.commands.proofs.run.run.Goals as goal

pub returns-clause-answer : goal.returns-clause-answer
returns-clause-answer g c =
    ran g.W.Write.contents (map string_bytes c.args.line.words.now) (g.F.Files.given c.args.files.now) (g.I.Read.remaining c.args.input)
    c.in-Ok.report c.answered-answer.new.report c.args.out c.answered-answer.result.0 c.answered-answer.result.1 c.in-Ok.ensures.inner
    c.in-Ok.ensures.empty c.answered-answer.ensures.leads c.answered-answer.ensures.tells c.answered-answer.ensures.whole
    c.into_parts-below.result.0 c.into_parts-below.ensures.inner
