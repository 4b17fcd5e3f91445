use Rattle.std.proofs.lemmas.Result.{IfOk-weaker}
use Rattle.arguments.specs.CommandLine.{audit_options}
use Rattle.arguments.proofs.command.audit_command.Goals as goal

pub returns : goal.returns
returns c =
    IfOk-weaker c.with_everybody.result _ _ (λ new added. added audit_options c.in_ok-audit_options.ensures) c.with_everybody.ensures
