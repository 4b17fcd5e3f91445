use Rattle.std.proofs.Common.{ap, arith}
use Rattle.std.specs.FinMap as map
use Rattle.cg_rows.specs.Processes.{LiveAndUsed}
use Rattle.cg_rows.proofs.StdMaps.{few_entries}
use Rattle.cg_rows.proofs.processes.Processes.size.Goals as goal

pub returns-clause-bound : goal.returns-clause-bound
returns-clause-bound c =
    omega (arith, few_entries c.self.inside.live.entries, ap (λ (p : LiveAndUsed). map.len p.live) c.self.view_is, c.len.ensures.len)
