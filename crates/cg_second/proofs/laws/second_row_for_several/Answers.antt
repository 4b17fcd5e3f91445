use Rattle.cg_second.proofs.Runs.{are_settled}
use Rattle.cg_second.proofs.laws.second_row_for_several.Goals as goal

pub returns : goal.returns
returns c = are_settled
