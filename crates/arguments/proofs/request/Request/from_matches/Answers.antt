-- What was found is that of the subcommand's own matches.
use Rattle.std.proofs.Common.{◌≡◌, ◌∙◌, ℕ, List, ap, sym}
use Rattle.std.specs.Prelude.{◌≢◌, Some, Result, Ok, Err, IfOk, IfErr, MatchResult, unwrap_or}
use Rattle.std.specs.Option.{option_map}
use Rattle.clap.specs.Matches.{found_of, subcommand_name_of}
use Rattle.clap.specs.Words.{rows_of, subcommand_rows_of}
use Rattle.clap.specs.declared.parser.matches.ArgMatches.{ArgMatches}
use Rattle.clap.specs.declared.parser.matches.Found.{Found}
use Rattle.arguments.specs.Given.{command_of, Holds, IsOf}
use Rattle.arguments.specs.declared.fault.ArgumentsFault.{ArgumentsFault}
use Rattle.arguments.specs.declared.fault.ArgumentsFault.TheVariants.{NoMemory}
use Rattle.arguments.specs.declared.request.Request.{Request}
use Rattle.arguments.proofs.FoundLaws.{holds_same}
use Rattle.arguments.proofs.request.Request.from_matches.Goals as goal

own_found : (matches : ArgMatches) (name : List ℕ) (found : Found) (result : Result Request ArgumentsFault)
    → Some name ≡ subcommand_name_of matches → Some (rows_of found) ≡ option_map (λ met. met.1) (subcommand_rows_of matches)
    → IfOk result (λ asked. command_of asked ≡ Some name) → IfOk result (Holds found)
    → IfErr result (λ fault. fault ≢ NoMemory → (asked : Request) → command_of asked ≡ Some name → Holds found asked → ⊥)
    → MatchResult result (IsOf matches) (λ fault. fault ≢ NoMemory → (asked : Request) → IsOf matches asked → ⊥)
own_found matches name found (Ok asked) of_name of_rows is holds none = (found, is ∙ of_name, sym of_rows, holds)
own_found matches name found (Err fault) of_name of_rows is holds none =
    λ other asked of.
    none other asked (of.1 ∙ sym of_name)
    (holds_same of.0 found (ap (λ rows. unwrap_or rows (rows_of of.0)) (sym of.2 ∙ sym of_rows)) asked of.3)

pub returns-in-Some : goal.returns-in-Some
returns-in-Some c =
    own_found c.args.matches.now c.in-Some.name.now (found_of c.in-Some.given.now) c.of_command.result c.in-Some.ensures.name
    c.in-Some.ensures.rows c.of_command.ensures.name c.of_command.ensures.given c.of_command.ensures.fault
