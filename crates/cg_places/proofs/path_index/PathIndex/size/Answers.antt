use Rattle.std.proofs.Common.{ap, arith}
use Rattle.std.specs.FinMap as map
use Rattle.cg_places.proofs.TextKeys.{few_numbers}
use Rattle.cg_places.proofs.path_index.PathIndex.size.Goals as goal

pub returns-clause-bound : goal.returns-clause-bound
returns-clause-bound c = omega (arith, few_numbers c.self.inside.numbers.entries, ap map.len c.self.view_is, c.len.ensures.len)
