use Rattle.cg_cli.proofs.ReadingOf.{reads_text}
use Rattle.cg_cli.proofs.reading.read_text.Goals as goal

pub returns-clause-read : goal.returns-clause-read
returns-clause-read c = reads_text c.args.bytes.now c.read_text.result c.read_text.ensures.read
