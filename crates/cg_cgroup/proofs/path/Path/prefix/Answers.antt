use Rattle.std.proofs.Common.{◌∙◌, arith}
use Rattle.cg_cgroup.proofs.PathEnds.{prefix_text}
use Rattle.cg_cgroup.proofs.path.Path.prefix.Goals as goal

pub returns-else-len-eq0-clause-text : goal.returns-else-len-eq0-clause-text
returns-else-len-eq0-clause-text c =
    c.front-front.ensures.text ∙ prefix_text c.args.self.now c.args.len (omega arith) c.requires
