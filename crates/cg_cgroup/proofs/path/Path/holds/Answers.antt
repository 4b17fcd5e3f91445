use Rattle.std.proofs.Common.{◌∙◌, arith}
use Rattle.cg_cgroup.proofs.PathSteps.{inside_shared, shorter_holds_none}
use Rattle.cg_cgroup.proofs.path.Path.holds.Goals as goal

pub returns-then-depth-len : goal.returns-then-depth-len
returns-then-depth-len c = shorter_holds_none c.args.self.now c.args.other.now c.args.len c.requires (omega arith)

pub returns : goal.returns
returns c =
    c.shares.ensures ∙ inside_shared c.args.self.now c.args.other.now c.args.len c.requires (omega arith)
