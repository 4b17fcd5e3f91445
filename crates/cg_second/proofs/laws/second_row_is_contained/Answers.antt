use Rattle.cg_second.proofs.Runs.{contained-settled}
use Rattle.cg_second.proofs.laws.second_row_is_contained.Goals as goal

pub returns : goal.returns
returns c = contained-settled
