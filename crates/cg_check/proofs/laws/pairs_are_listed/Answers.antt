use Rattle.cg_check.proofs.ListedPairs.{pairs-listed, pairs-count}
use Rattle.cg_check.proofs.laws.pairs_are_listed.Goals as goal

pub returns-clause-each : goal.returns-clause-each
returns-clause-each c = pairs-listed

pub returns-clause-count : goal.returns-clause-count
returns-clause-count c = λ st. pairs-count st 0
