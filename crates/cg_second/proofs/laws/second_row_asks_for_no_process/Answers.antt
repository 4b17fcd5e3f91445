use Rattle.cg_second.proofs.Others.{row-no_process}
use Rattle.cg_second.proofs.laws.second_row_asks_for_no_process.Goals as goal

pub returns : goal.returns
returns c = row-no_process
