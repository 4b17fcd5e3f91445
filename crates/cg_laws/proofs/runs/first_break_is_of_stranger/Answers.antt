use Rattle.cg_laws.proofs.StrangerLaws.{broken-of_stranger}
use Rattle.cg_laws.proofs.runs.first_break_is_of_stranger.Goals as goal

pub returns : goal.returns
returns c = broken-of_stranger
