use Rattle.std.proofs.Common.{sym, ◌∙◌, arith}
use Rattle.cg_cgroup.proofs.PathEnds.{prefix_text}
use Rattle.cg_places.proofs.path_index.front.Goals as goal

pub returns-else-len-eq0-clause-text : goal.returns-else-len-eq0-clause-text
returns-else-len-eq0-clause-text c = c.prefix-prefix.ensures.text ∙ sym (prefix_text c.args.path.now c.args.len (omega arith) c.requires)
