use Rattle.std.proofs.Common.{arith, ◌∙◌}
use Rattle.cg_cgroup.proofs.PathEnds.{kept_length, kept_ends, end_at}
use Rattle.cg_cgroup.proofs.path.Path.end.Goals as goal

pub index-requires : goal.index-requires
index-requires c =
    let k = kept_length _ _ _ c.self.invariant c.self.view_is in
    grind (arith, k)

pub returns-else-len-eq0 : goal.returns-else-len-eq0
returns-else-len-eq0 c =
    let k = kept_ends _ _ _ c.self.invariant c.self.view_is in
    c.index.ensures ∙ (rw k (end_at c.args.self.now c.args.len _ (omega arith) c.requires))
