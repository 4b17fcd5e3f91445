use Rattle.std.proofs.Common.{arith}
use Rattle.cg_cgroup.proofs.PathEnds.{kept_length}
use Rattle.cg_cgroup.proofs.path.Path.depth.Goals as goal

pub returns-clause-depth : goal.returns-clause-depth
returns-clause-depth c =
    let k = kept_length _ _ _ c.self.invariant c.self.view_is in
    grind (arith, k, c.len.ensures)
