use Rattle.cg_print.proofs.ReadCarried.{read_carried}
use Rattle.cg_print.proofs.laws.read_trees_are_carried.Goals as goal

pub returns : goal.returns
returns c = read_carried
