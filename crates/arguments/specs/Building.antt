-- How it is read and written: nobody has to believe it.
-- What the makers of the command line make of `clap`'s commands and options.
use Rattle.std.specs.Prelude.{◌≡◌, false, []}
use Rattle.clap.specs.Walk.{Rule, rule_of}
use Rattle.clap.specs.Simple.{Shape, app_of}
use Rattle.clap.specs.declared.builder.arg.Arg.{Arg}
use Rattle.clap.specs.declared.builder.command.Command.{Command}
use Rattle.clap.specs.declared.builder.command.Command.TheViews.{out-Command}

-- an option that counts for its own command alone
pub record IsOption (rule : Rule) (arg : Arg) : Type 0 where
  pub rule_is : rule_of arg ≡ rule
  pub local : arg.global ≡ false

-- a command of this shape, with none below it
pub record IsCommand (shape : Shape) (command : Command) : Type 0 where
  pub app_is : app_of command ≡ record { top = shape; subs = [] }
  pub local : (out-Command command).has_globals ≡ false
