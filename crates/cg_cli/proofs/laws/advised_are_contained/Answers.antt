use Rattle.cg_cli.proofs.AdvisedTrees.{contained-advised}
use Rattle.cg_cli.proofs.NamedPairs.{advised-as-named}
use Rattle.cg_cli.proofs.laws.advised_are_contained.Goals as goal

pub returns-clause-as_named : goal.returns-clause-as_named
returns-clause-as_named c = advised-as-named

pub returns-clause-all : goal.returns-clause-all
returns-clause-all c = contained-advised
