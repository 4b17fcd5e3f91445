use Rattle.cg_laws.proofs.CountLaws.{descendants-start, depth-start, start-count}
use Rattle.cg_laws.proofs.runs.counts_break_at_start.Goals as goal

pub returns : goal.returns
returns c = record { descendants = descendants-start; depth = depth-start; alone = start-count }
