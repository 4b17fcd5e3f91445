use Rattle.cg_escapes.proofs.EscapeLines.{escape_lines}
use Rattle.cg_escapes.proofs.laws.escapes_have_lines.Goals as goal

pub returns : goal.returns
returns c =
    λ vocabulary st user subtree ops formed named worded sub is.
    escape_lines vocabulary st user subtree formed named worded sub ops is
