use Rattle.cg_cli.proofs.Knowing.{unlisted-settled}
use Rattle.cg_cli.proofs.answers.laws.unlisted_are_settled.Goals as goal

pub returns : goal.returns
returns c = λ st users subtree found formed is known. unlisted-settled st users subtree found formed is known
