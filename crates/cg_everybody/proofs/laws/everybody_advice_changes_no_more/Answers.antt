use Rattle.cg_everybody.proofs.Changed.{changed-no_more}
use Rattle.cg_everybody.proofs.laws.everybody_advice_changes_no_more.Goals as goal

pub returns : goal.returns
returns c = changed-no_more
