use Rattle.cg_escapes.proofs.EscapeReplays.{escapes_replayed}
use Rattle.cg_escapes.proofs.laws.escapes_are_replayed.Goals as goal

pub returns : goal.returns
returns c = escapes_replayed
