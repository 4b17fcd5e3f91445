-- An option and a command more, of what is known of a command line.
use Rattle.std.proofs.Common.{◌≡◌, ◌∙◌, [], ◌∷◌, ◌++◌, ap, ap₂, refl}
use Rattle.clap.specs.Walk.{Rule}
use Rattle.clap.specs.Built.{AddsArg, AddsSubcommand}
use Rattle.clap.specs.Simple.{App, Shape, app_of, with_rule, with_subcommand}
use Rattle.clap.specs.declared.builder.arg.Arg.{Arg}
use Rattle.clap.specs.declared.builder.command.Command.{Command}
use Rattle.arguments.specs.Building.{IsOption, IsCommand}

pub option_added : (shape : Shape) (rule : Rule) (old new : Command) (arg : Arg) → IsCommand shape old → IsOption rule arg
    → AddsArg old arg new → IsCommand (record shape { rules = shape.rules ++ rule ∷ [] }) new
option_added shape rule old new arg command option added = record {
  app_is = added.shape option.local ∙ ap₂ with_rule command.app_is option.rule_is;
  local = added.globals ∙ (rw (command.local, option.local) refl);
}

pub command_added : (app : App) (shape : Shape) (old sub new : Command) → app_of old ≡ app → IsCommand shape sub
    → AddsSubcommand old sub new → app_of new ≡ with_subcommand app shape
command_added app shape old sub new is command added =
    added.shape command.local ∙ ap₂ with_subcommand is (ap (λ (it : App). it.top) command.app_is)
