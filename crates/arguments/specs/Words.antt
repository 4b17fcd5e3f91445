-- The request that the words of a command line make, by what `clap` promises of the command line. Own.
use Rattle.std.specs.Prelude.{◌≡◌, ◌⊎◌, List, [], codes, Some}
use Rattle.clap.specs.Values.{kind_of}
use Rattle.clap.specs.Kinds.{IsAmong}
use Rattle.clap.specs.Walk.{Text, rows_of}
use Rattle.clap.specs.Simple.{subcommand_of}
use Rattle.clap.specs.Faults.{fault_of}
use Rattle.clap.specs.declared.error.kind.ErrorKind.{ErrorKind}
use Rattle.clap.specs.declared.error.kind.ErrorKind.TheVariants.{DisplayHelp, DisplayVersion}
use Rattle.clap.specs.declared.parser.matches.Found.{Found}
use Rattle.arguments.specs.CommandLine.{command_line}
use Rattle.arguments.specs.Given.{IsMay, IsCheck, IsAudit, IsEverybody, IsExplain, IsAdvise, IsOfPairs, IsOfSubtrees, IsReplay, IsUpgrade, wanted_command}
use Rattle.arguments.specs.declared.request.Request.{Request}
use Rattle.arguments.specs.declared.request.Request.TheVariants as request

-- help or the version, which is no mistake
abbrev pub IsNoMistake : ErrorKind → Type 0
IsNoMistake kind = (kind ≡ DisplayHelp) ⊎ (kind ≡ DisplayVersion)

-- `clap` finds no fault in the words, which name this command, and of its options it finds what is said.
abbrev pub NamesCommand : List Text → Text → (Found → Type 0) → Type 0
NamesCommand words command says =
    (found : Found) × (fault_of command_line words ≡ []) × (subcommand_of command_line words ≡ Some (command, rows_of found)) × says found

-- The request that words make.
abbrev pub Makes : List Text → Request → Type 0
Makes words (request.Help help) = IsNoMistake (kind_of help) × IsAmong (kind_of help) (fault_of command_line words)
Makes words (request.May may) = NamesCommand words (codes "may") (λ found. IsMay found may)
Makes words (request.Check check) = NamesCommand words (codes "check") (λ found. IsCheck found check)
Makes words (request.Settle check) = NamesCommand words (codes "settle") (λ found. IsCheck found check)
Makes words (request.Audit audit) = NamesCommand words (codes "audit") (λ found. IsAudit found audit)
Makes words (request.Everybody asked) = NamesCommand words (wanted_command asked.wanted) (λ found. IsEverybody found asked)
Makes words (request.Subtrees asked) = NamesCommand words (wanted_command asked.wanted) (λ found. IsOfSubtrees found asked)
Makes words (request.AuditPairs pairs) = NamesCommand words (codes "audit") (λ found. IsOfPairs found pairs)
Makes words (request.Explain explain) = NamesCommand words (codes "explain") (λ found. IsExplain found explain)
Makes words (request.ExplainPairs pairs) = NamesCommand words (codes "explain") (λ found. IsOfPairs found pairs)
Makes words (request.Advise advise) = NamesCommand words (codes "advise") (λ found. IsAdvise found advise)
Makes words (request.AdvisePairs pairs) = NamesCommand words (codes "advise") (λ found. IsOfPairs found pairs)
Makes words (request.Replay replay) = NamesCommand words (codes "replay") (λ found. IsReplay found replay)
Makes words (request.Upgrade upgrade) = NamesCommand words (codes "upgrade") (λ found. IsUpgrade found upgrade)

-- `clap` finds a mistake in the words.
abbrev pub IsMistaken : List Text → Type 0
IsMistaken words = (kind : ErrorKind) × (IsNoMistake kind → ⊥) × IsAmong kind (fault_of command_line words)

-- Words that are no request: `clap` finds a mistake, or what it finds is of no request.
abbrev pub IsNone : List Text → Type 0
IsNone words = IsMistaken words ⊎ ((asked : Request) → Makes words asked → ⊥)
