use Rattle.std.proofs.lemmas.Result.{IfOk-weaker}
use Rattle.arguments.proofs.CommandLaws.{command_added}
use Rattle.arguments.proofs.command.with_judgements.Goals as goal

pub returns : goal.returns
returns c =
    let may = command_added _ _ _ _ _ c.program_command.ensures.app_is c.in_ok-may_command.ensures c.in_ok-subcommand.ensures in
    let check = command_added _ _ _ _ _ may c.in_ok-subtree_command.ensures c.in_ok-subcommand-2.ensures in
    let settle = command_added _ _ _ _ _ check c.in_ok-subtree_command-2.ensures c.in_ok-subcommand-3.ensures in
    IfOk-weaker c.subcommand-4.result _ _ (λ new added. command_added _ _ _ _ _ settle c.in_ok-audit_command.ensures added)
    c.subcommand-4.ensures
