-- The command line of the program, as `clap` reads one: its commands, which options each has, which of them are needed, and which
-- may be given again. Own.
use Rattle.std.specs.Prelude.{List, [], ◌∷◌, ◌++◌, codes, true, false, Some, pos}
use Rattle.clap.specs.Walk.{Rule, Text}
use Rattle.clap.specs.Simple.{App, Shape, new_rule, new_shape}
use Rattle.clap.specs.declared.builder.action.ArgAction.TheVariants.{Append, SetTrue}
use Rattle.clap.specs.declared.builder.value_parser.ValueParser.TheVariants.{Signed}

-- an option with a value, named by its id
abbrev pub word_option : Text → Rule
word_option name = record (new_rule name) { long = Some name; value_names = 1 }

-- one whose value is a number of 32 bits
abbrev pub number_option : Text → Rule
number_option name = record (word_option name) { parser = Some (Signed (pos 0) (pos 4294967295)) }

-- an option with no value
abbrev pub flag : Text → Rule
flag name = record (new_rule name) { long = Some name; action = Some SetTrue }

abbrev pub needed : Rule → Rule
needed rule = record rule { required = true }

-- one that may be given several times
abbrev pub repeated : Rule → Rule
repeated rule = record rule { action = Some Append }

-- a command with options, and none below it
abbrev pub command_with : Text → List Rule → Shape
command_with name options = record (new_shape name) { rules = options }

-- the tree, a user, and how the answer is written
abbrev pub of_user : List Rule
of_user =
    word_option (codes "tree") ∷ needed (number_option (codes "uid")) ∷ repeated (number_option (codes "gid"))
    ∷ word_option (codes "format") ∷ []

abbrev pub may_command : Shape
may_command = command_with (codes "may") (of_user ++ needed (number_option (codes "pid")) ∷ needed (word_option (codes "to")) ∷ [])

-- a command that is asked of a user and a subtree
abbrev pub subtree_command : Text → Shape
subtree_command name = command_with name (of_user ++ needed (word_option (codes "subtree")) ∷ [])

-- a command that is asked of users and subtrees, or of pairs of them
abbrev pub pairs_command : Text → Shape
pairs_command name = command_with name
    (word_option (codes "tree") ∷ repeated (word_option (codes "uid")) ∷ repeated (word_option (codes "subtree"))
    ∷ word_option (codes "pairs") ∷ word_option (codes "format") ∷ [])

-- everybody in place of users
abbrev pub of_everybody : List Rule
of_everybody = flag (codes "everybody") ∷ word_option (codes "subtrees") ∷ repeated (number_option (codes "but"))
    ∷ repeated (word_option (codes "group")) ∷ []

abbrev pub audit_options : Shape
audit_options = record (pairs_command (codes "audit")) {
  rules = (pairs_command (codes "audit")).rules ++ flag (codes "all") ∷ flag (codes "settle") ∷ [];
}

abbrev pub with_everybody : Shape → Shape
with_everybody command = record command { rules = command.rules ++ of_everybody }

abbrev pub audit_command : Shape
audit_command = with_everybody audit_options

abbrev pub explain_command : Shape
explain_command = with_everybody (pairs_command (codes "explain"))

-- by users and subtrees, or by pairs of them
abbrev pub advise_named : Shape
advise_named = command_with (codes "advise")
    (word_option (codes "tree") ∷ repeated (word_option (codes "uid")) ∷ repeated (number_option (codes "gid"))
    ∷ repeated (word_option (codes "subtree")) ∷ [])

abbrev pub advise_options : Shape
advise_options = record advise_named {
  rules = advise_named.rules ++ word_option (codes "pairs") ∷ flag (codes "settle") ∷ word_option (codes "format") ∷ [];
}

abbrev pub advise_command : Shape
advise_command = with_everybody advise_options

abbrev pub replay_command : Shape
replay_command = command_with (codes "replay") (of_user ++ needed (word_option (codes "ops")) ∷ word_option (codes "subtree") ∷ [])

abbrev pub upgrade_command : Shape
upgrade_command = command_with (codes "upgrade") (word_option (codes "tree") ∷ [])

-- the program, which has a version, and one of whose commands has to be named
abbrev pub program_command : Shape
program_command = record (new_shape (codes "zirofen")) { has_version = true; subcommand_required = true }

-- with the commands that judge
abbrev pub with_judgements : App
with_judgements = record {
  top = record program_command { is_leaf = false };
  subs = may_command ∷ subtree_command (codes "check") ∷ subtree_command (codes "settle") ∷ audit_command ∷ [];
}

-- and with those that say why or what to do, and those that go over a text
abbrev pub command_line : App
command_line = record with_judgements {
  subs = with_judgements.subs ++ explain_command ∷ advise_command ∷ replay_command ∷ upgrade_command ∷ [];
}
