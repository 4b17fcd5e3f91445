use Rattle.std.proofs.lemmas.Result.{IfOk-weaker}
use Rattle.arguments.proofs.CommandLaws.{command_added}
use Rattle.arguments.proofs.command.command.Goals as goal

pub returns : goal.returns
returns c =
    let explain = command_added _ _ _ _ _ c.in_ok-with_judgements.ensures c.in_ok-explain_command.ensures c.in_ok-subcommand.ensures in
    let advise = command_added _ _ _ _ _ explain c.in_ok-advise_command.ensures c.in_ok-subcommand-2.ensures in
    let replay = command_added _ _ _ _ _ advise c.in_ok-replay_command.ensures c.in_ok-subcommand-3.ensures in
    IfOk-weaker c.subcommand-4.result _ _ (λ new added. command_added _ _ _ _ _ replay c.in_ok-upgrade_command.ensures added)
    c.subcommand-4.ensures
