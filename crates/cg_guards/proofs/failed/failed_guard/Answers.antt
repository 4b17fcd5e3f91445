use Rattle.std.proofs.Common.{sym, ◌∙◌}
use Rattle.cg_guards.proofs.FirstFailed.{over_fails}
use Rattle.cg_guards.proofs.failed.failed_guard.Goals as goal

pub returns-then-is_over : goal.returns-then-is_over
returns-then-is_over g c =
    over_fails (g.H.Hierarchy.state c.args.tree.now) c.args.user.now c.args.subtree.now c.depth.result c.depth.ensures.depth
    c.in_default.ensures (sym c.is_over.ensures ∙ c.if-is_over.true)
