use Rattle.std.proofs.Common.{◌∙◌}
use Rattle.cg_text.proofs.TakesLaws.{has_key}
use Rattle.cg_text.proofs.tree.form.has_key.Goals as goal

pub returns : goal.returns
returns c = c.contains_key.ensures ∙ has_key c.args.key.now c.args.table.now.entries
