use Rattle.std.proofs.Common.{◌≡◌, drop}
use Rattle.cg_model.specs.Steps.{after_all}
use Rattle.cg_model.specs.Held.{by_user}
use Rattle.cg_check.proofs.escape.carry_out.Given as goal

-- what is still to be carried out leads to the same state
abbrev pub invariant-loop-op : goal.invariant-loop-op
invariant-loop-op g l =
    after_all (g.H.Hierarchy.state l.tree) (by_user l.user (drop l.op-index l.ops))
    ≡ after_all (g.H.Hierarchy.state l.fn.tree) (by_user l.user l.ops)
