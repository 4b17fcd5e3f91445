-- The request that words make is of the command that they name, and holds what is found of that.
use Rattle.std.proofs.Common.{◌≡◌, List, [], Option, Some, ap, sym, ◌∙◌, subst, refl}
use Rattle.std.specs.Prelude.{unwrap_or}
use Rattle.std.specs.Option.{option_map}
use Rattle.clap.specs.Values.{kind_of}
use Rattle.clap.specs.Kinds.{IsAmong}
use Rattle.clap.specs.Walk.{Row, Text, rows_of}
use Rattle.clap.specs.Simple.{subcommand_of}
use Rattle.clap.specs.Faults.{fault_of}
use Rattle.clap.specs.declared.parser.matches.Found.{Found}
use Rattle.arguments.specs.CommandLine.{command_line}
use Rattle.arguments.specs.Given.{command_of, Holds}
use Rattle.arguments.specs.Words.{Makes, NamesCommand}
use Rattle.arguments.specs.declared.request.Request.{Request}
use Rattle.arguments.specs.declared.request.Request.TheVariants as request
use Rattle.arguments.proofs.FoundLaws.{holds_same}

module _ (words : List Text) (name : Text) (found : Found) (fits : fault_of command_line words ≡ [])
    (met : subcommand_of command_line words ≡ Some (name, rows_of found)) where
  same_name : (command : Text) (other : Found) → subcommand_of command_line words ≡ Some (command, rows_of other)
      → ◌≡◌ {A = Option Text} (Some command) (Some name)
  same_name command other is = ap (option_map (λ (p : Text × List Row). p.0)) (sym is ∙ met)

  same_rows : (command : Text) (other : Found) → subcommand_of command_line words ≡ Some (command, rows_of other)
      → rows_of other ≡ rows_of found
  same_rows command other is =
      ap (λ (o : Option (Text × List Row)). unwrap_or (option_map (λ (p : Text × List Row). p.1) o) []) (sym is ∙ met)

  by_command : (command : Text) (asked : Request) → Some command ≡ command_of asked
      → NamesCommand words command (λ other. Holds other asked)
      → (command_of asked ≡ Some name) × Holds found asked
  by_command command asked own h =
      (sym own ∙ same_name command h.0 h.2, holds_same h.0 found (same_rows command h.0 h.2) asked h.3)

  pub named_as : (asked : Request) → Makes words asked → (command_of asked ≡ Some name) × Holds found asked
  named_as (request.Help help) h = absurd (subst (IsAmong (kind_of help)) fits h.1)
  named_as (request.May may) h = by_command _ (request.May may) refl h
  named_as (request.Check check) h = by_command _ (request.Check check) refl h
  named_as (request.Settle check) h = by_command _ (request.Settle check) refl h
  named_as (request.Audit audit) h = by_command _ (request.Audit audit) refl h
  named_as (request.Everybody asked) h = by_command _ (request.Everybody asked) refl h
  named_as (request.Subtrees asked) h = by_command _ (request.Subtrees asked) refl h
  named_as (request.AuditPairs pairs) h = by_command _ (request.AuditPairs pairs) refl h
  named_as (request.Explain explain) h = by_command _ (request.Explain explain) refl h
  named_as (request.ExplainPairs pairs) h = by_command _ (request.ExplainPairs pairs) refl h
  named_as (request.Advise advise) h = by_command _ (request.Advise advise) refl h
  named_as (request.AdvisePairs pairs) h = by_command _ (request.AdvisePairs pairs) refl h
  named_as (request.Replay replay) h = by_command _ (request.Replay replay) refl h
  named_as (request.Upgrade upgrade) h = by_command _ (request.Upgrade upgrade) refl h
