use Rattle.cg_check.proofs.ListedLaws.{unlisted-contained}
use Rattle.cg_check.proofs.laws.unlisted_are_contained.Goals as goal

pub returns : goal.returns
returns c = λ st users subtree. unlisted-contained st subtree users
