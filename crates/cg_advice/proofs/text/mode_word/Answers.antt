use Rattle.std.proofs.Common.{◌∙◌}
use Rattle.cg_advice.proofs.Written.{written_digits}
use Rattle.cg_advice.proofs.text.mode_word.Goals as goal

pub returns : goal.returns
returns c = c.in_ok-word.ensures.ok ∙ written_digits c.args.mode c.requires
