use Rattle.cg_check.proofs.LimitFiles.{unsettled-guard}
use Rattle.cg_check.proofs.laws.unsettled_names_guards_above.Goals as goal

pub returns : goal.returns
returns c = unsettled-guard
