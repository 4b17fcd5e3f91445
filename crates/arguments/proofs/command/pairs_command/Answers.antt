use Rattle.std.proofs.Common.{rules, codes}
use Rattle.std.proofs.lemmas.Result.{IfOk-weaker}
use Rattle.clap.specs.Simple.{new_shape}
use Rattle.arguments.specs.Building.{IsOption, IsCommand}
use Rattle.arguments.specs.CommandLine.{word_option, repeated}
use Rattle.arguments.proofs.CommandLaws.{option_added}
use Rattle.arguments.proofs.command.pairs_command.Goals as goal

pub returns : goal.returns
returns c =
    let begun : IsCommand (new_shape c.args.name.now) c.after_help.result = record { app_is = search rules; local = search rules } in
    let of_tree = option_added _ _ _ _ _ begun c.tree_argument.ensures c.in_ok-arg.ensures in
    let uid : IsOption (repeated (word_option (codes "uid"))) c.help.result =
    record { rule_is = search rules; local = search rules } in
    let of_uid = option_added _ _ _ _ _ of_tree uid c.in_ok-arg-2.ensures in
    let subtree : IsOption (repeated (word_option (codes "subtree"))) c.help-2.result =
    record { rule_is = search rules; local = search rules } in
    let of_subtree = option_added _ _ _ _ _ of_uid subtree c.in_ok-arg-3.ensures in
    let of_pairs = option_added _ _ _ _ _ of_subtree c.pairs_argument.ensures c.in_ok-arg-4.ensures in
    IfOk-weaker c.arg-5.result _ _ (λ new added. option_added _ _ _ _ _ of_pairs c.format_argument.ensures added) c.arg-5.ensures
