use Rattle.cg_print.proofs.Spelling.{spelled_once}
use Rattle.cg_print.proofs.laws.texts_are_one.Goals as goal

pub returns : goal.returns
returns c = spelled_once
