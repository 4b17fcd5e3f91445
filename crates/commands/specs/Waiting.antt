-- What a terminal is told: nobody has to believe it.
-- What a terminal is told that the program waits for. Own.
use Rattle.std.specs.Prelude.{◌≡◌, ◌⊎◌, ℕ, Bool, true, false, List, Option, Result, Ok, Err}
use Rattle.std.specs.Io.KnownBytes.{Appends, Keeps}
use Rattle.streams.specs.Written.{AppendsPart}
use Rattle.arguments.specs.Words.{Makes, IsNone}
use Rattle.arguments.specs.declared.request.Request.{Request}
use Rattle.cg_faults.specs.declared.fault.CliFault.{CliFault}
use Rattle.cg_faults.specs.declared.fault.CliFault.TheVariants.{Write, NoMemory}
use Rattle.cg_help.specs.Waiting.{waiting_line}

-- Where standard input is a terminal, the line of what the words ask to be read from it; else nothing.
abbrev pub TellsWaiting : List (List ℕ) → Bool → Option (List ℕ) → Option (List ℕ) → Result (Unit {0}) CliFault → Type 0
TellsWaiting words false old new result = (result ≡ Ok tt) × Keeps old new
TellsWaiting words true old new (Ok done) = ((asked : Request) × Makes words asked × Appends old new (waiting_line asked)) ⊎ (IsNone words × Keeps old new)
TellsWaiting words true old new (Err Write) = (asked : Request) × Makes words asked × AppendsPart old new (waiting_line asked)
TellsWaiting words true old new (Err fault) = (fault ≡ NoMemory) × Keeps old new
