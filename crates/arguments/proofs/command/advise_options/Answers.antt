use Rattle.std.proofs.lemmas.Result.{IfOk-weaker}
use Rattle.arguments.proofs.CommandLaws.{option_added}
use Rattle.arguments.proofs.command.advise_options.Goals as goal

pub returns : goal.returns
returns c =
    let of_pairs = option_added _ _ _ _ _ c.in_ok-advise_named.ensures c.pairs_argument.ensures c.in_ok-arg.ensures in
    let of_settle = option_added _ _ _ _ _ of_pairs c.settle_argument.ensures c.in_ok-arg-2.ensures in
    IfOk-weaker c.arg-3.result _ _ (λ new added. option_added _ _ _ _ _ of_settle c.format_argument.ensures added) c.arg-3.ensures
