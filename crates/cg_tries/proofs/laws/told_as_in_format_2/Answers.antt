use Rattle.cg_tries.proofs.Told.{as_in_format_2}
use Rattle.cg_tries.proofs.laws.told_as_in_format_2.Goals as goal

pub returns : goal.returns
returns c = as_in_format_2
