use Rattle.cg_second.proofs.Judged.{judged}
use Rattle.cg_second.proofs.laws.second_row_is_a_test.Goals as goal

pub returns : goal.returns
returns c = judged
