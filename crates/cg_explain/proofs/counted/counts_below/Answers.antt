use Rattle.cg_explain.proofs.Within.{counted-is}
use Rattle.cg_explain.proofs.counted.counts_below.Goals as goal

pub returns : goal.returns
returns g c =
    counted-is (g.H.Hierarchy.state c.args.tree.now) c.args.subtree.now c.in_ok-cgroup.cgroup.now c.depth-len.result c.count_below.result
    c.depth_below.result c.in_ok-cgroup.ensures.row c.depth-len.ensures.depth c.count_below.ensures c.depth_below.ensures
