use Rattle.cg_second.proofs.Cases.{second-fewer}
use Rattle.cg_second.proofs.laws.second_row_for_fewer.Goals as goal

pub returns : goal.returns
returns c = λ st users fewer subtree among. second-fewer st users fewer among subtree
