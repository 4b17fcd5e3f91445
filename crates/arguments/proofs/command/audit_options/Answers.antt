use Rattle.std.proofs.lemmas.Result.{IfOk-weaker}
use Rattle.arguments.proofs.CommandLaws.{option_added}
use Rattle.arguments.proofs.command.audit_options.Goals as goal

pub returns : goal.returns
returns c =
    let of_all = option_added _ _ _ _ _ c.in_ok-pairs_command.ensures c.all_argument.ensures c.in_ok-arg.ensures in
    IfOk-weaker c.arg-2.result _ _ (λ new added. option_added _ _ _ _ _ of_all c.settle_argument.ensures added) c.arg-2.ensures
