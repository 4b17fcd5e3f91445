use Rattle.std.proofs.Common.{rules, codes}
use Rattle.std.proofs.lemmas.Result.{IfOk-weaker}
use Rattle.clap.specs.Simple.{new_shape}
use Rattle.arguments.specs.Building.{IsOption, IsCommand}
use Rattle.arguments.specs.CommandLine.{number_option, repeated}
use Rattle.arguments.proofs.CommandLaws.{option_added}
use Rattle.arguments.proofs.command.user_command.Goals as goal

pub returns : goal.returns
returns c =
    let begun : IsCommand (new_shape c.args.name.now) c.after_help.result = record { app_is = search rules; local = search rules } in
    let of_tree = option_added _ _ _ _ _ begun c.tree_argument.ensures c.in_ok-arg.ensures in
    let of_uid = option_added _ _ _ _ _ of_tree c.needed_number.ensures c.in_ok-arg-2.ensures in
    let gid : IsOption (repeated (number_option (codes "gid"))) c.help.result =
    record { rule_is = search rules; local = search rules } in
    let of_gid = option_added _ _ _ _ _ of_uid gid c.in_ok-arg-3.ensures in
    IfOk-weaker c.arg-4.result _ _ (λ new added. option_added _ _ _ _ _ of_gid c.format_argument.ensures added) c.arg-4.ensures
