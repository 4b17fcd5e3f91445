use Rattle.std.proofs.Common.{codes}
use Rattle.std.proofs.lemmas.Result.{IfOk-weaker}
use Rattle.arguments.specs.CommandLine.{pairs_command}
use Rattle.arguments.proofs.command.explain_command.Goals as goal

pub returns : goal.returns
returns c =
    IfOk-weaker c.with_everybody.result _ _ (λ new added. added (pairs_command (codes "explain")) c.in_ok-pairs_command.ensures)
    c.with_everybody.ensures
