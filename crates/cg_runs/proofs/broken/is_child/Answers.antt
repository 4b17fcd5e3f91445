use Rattle.std.proofs.Common.{◌≤◌, length, sym, ◌∙◌, arith}
use Rattle.cg_cgroup.proofs.PathLaws.{inside-length}
use Rattle.cg_runs.proofs.broken.is_child.Goals as goal

pub overflow_sub-result : goal.overflow_sub-result
overflow_sub-result c =
    let within : length c.args.top.now ≤ length c.args.path.now =
    inside-length _ _ (sym c.is_prefix_of.ensures ∙ c.if-not-is_prefix_of.false) in
    omega (arith, within)
