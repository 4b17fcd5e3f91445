use Rattle.std.proofs.lemmas.Result.{IfOk-weaker}
use Rattle.arguments.specs.CommandLine.{advise_options}
use Rattle.arguments.proofs.command.advise_command.Goals as goal

pub returns : goal.returns
returns c =
    IfOk-weaker c.with_everybody.result _ _ (λ new added. added advise_options c.in_ok-advise_options.ensures) c.with_everybody.ensures
