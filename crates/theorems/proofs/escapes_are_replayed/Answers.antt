use Rattle.cg_check.proofs.AnswerLaws.{escape-tried, escape-broken}
use Rattle.cg_escapes.proofs.EscapeReplays.{escapes_replayed}
use Rattle.theorems.proofs.escapes_are_replayed.Goals as goal

pub returns : goal.returns
returns c = record {
  tried = escape-tried;
  broken = escape-broken;
  bytes = escapes_replayed;
}
