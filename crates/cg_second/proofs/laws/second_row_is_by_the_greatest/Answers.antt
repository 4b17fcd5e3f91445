use Rattle.cg_second.proofs.Greatest.{by-greatest}
use Rattle.cg_second.proofs.laws.second_row_is_by_the_greatest.Goals as goal

pub returns : goal.returns
returns c = by-greatest
