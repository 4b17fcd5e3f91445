use Rattle.cg_cli.proofs.ReadingOf.{reads_any}
use Rattle.cg_cli.proofs.reading.read_tree.Goals as goal

pub returns : goal.returns
returns c = record { read = reads_any c.args.bytes.now c.read_tree.result c.read_tree.ensures.read }
