-- What the words of a command line lead to, and how the program ends. Own.
use Rattle.std.specs.Prelude.{◌≡◌, ◌⊎◌, ℕ, List, Option, Result, Ok, Err, IfOk, IsOk, IsErr}
use Rattle.std.specs.Io.KnownBytes.{Keeps, append_known}
use Rattle.arguments.specs.Words.{Makes, IsNone}
use Rattle.arguments.specs.declared.request.Request.{Request}
use Rattle.cg_faults.specs.declared.fault.CliFault.{CliFault}
use Rattle.cg_faults.specs.declared.fault.CliFault.TheVariants.{Write, NoMemory}
use Rattle.streams.specs.declared.write.WriteFailed.{WriteFailed}
use Rattle.cg_help.specs.Beside.{AreBesideLines}
use Rattle.cg_help.specs.declared.beside.Beside.{Beside}
use Rattle.cg_help.specs.Help.{IsHelpFor}
use Rattle.commands.specs.Faults.{call_fault, LiesThere, Prints}
use Rattle.commands.specs.declared.fault.Untold.{Untold}
use Rattle.commands.specs.declared.fault.Untold.TheVariants.{NoMemory as NoRoom}
use Rattle.commands.specs.Requests.{Files, CarriesOut}
use Rattle.commands.specs.declared.fault.Fault.{Fault}
use Rattle.commands.specs.declared.fault.Fault.TheVariants.{Usage, Cli}

-- How a call ended whose report is held in a buffer: its own fault comes before that of the last write.
abbrev pub IsFlushed : Result ℕ CliFault → Result ℕ CliFault → Type 0
IsFlushed (Ok status) result = (result ≡ Ok status) ⊎ (result ≡ Err Write)
IsFlushed (Err fault) result = result ≡ Err fault

-- a request that is carried out through a buffer
abbrev pub CarriesOutBuffered : Request → Files → Option (List ℕ) → Option (List ℕ) → Option (List ℕ) → Result ℕ CliFault → Type 0
CarriesOutBuffered asked files given old new result =
    (ended : Result ℕ CliFault) × CarriesOut asked files given old new ended × IsFlushed ended result

-- what a call came to, to the program
abbrev pub in_program : Result ℕ CliFault → Result ℕ Fault
in_program (Ok status) = Ok status
in_program (Err fault) = Err (Cli fault)

-- The request that the words make is carried out.
abbrev pub IsCarriedOut : List (List ℕ) → Files → Option (List ℕ) → Option (List ℕ) → Option (List ℕ) → Result ℕ CliFault → Type 0
IsCarriedOut words files given old new result =
    (asked : Request) × Makes words asked × CarriesOutBuffered asked files given old new result

-- What the words of a command line lead to: the request that they make is carried out; or they make none, or there is no memory
-- for it, and nothing is written.
abbrev pub LeadsTo : List (List ℕ) → Files → Option (List ℕ) → Option (List ℕ) → Option (List ℕ) → Result ℕ Fault → Type 0
LeadsTo words files given old new (Ok status) = IsCarriedOut words files given old new (Ok status)
LeadsTo words files given old new (Err (Cli fault)) = IsCarriedOut words files given old new (Err fault) ⊎ ((fault ≡ NoMemory) × Keeps old new)
LeadsTo words files given old new (Err Usage) = IsNone words × Keeps old new

-- A status comes only where all was written. Where a write of the report failed, not all was.
abbrev pub TellsWrites : Result ℕ Fault → Result (Unit {0}) WriteFailed → Type 0
TellsWrites answer written = IfOk answer (λ status. IsOk written) × (answer ≡ Err (Cli Write) → IsErr written)

-- What lies in the writer below the buffer: all that was said, or where a write failed a front of it.
abbrev pub LiesBelow : Result (Unit {0}) WriteFailed → Option (List ℕ) → Option (List ℕ) → Type 0
LiesBelow (Ok done) said new = Keeps said new
LiesBelow (Err failed) said new = (lost : List ℕ) × Keeps said (append_known new lost)

-- What a run answered, and what lies in its writer.
abbrev pub RunsTo : List (List ℕ) → Files → Option (List ℕ) → Option (List ℕ) → Option (List ℕ) → Result ℕ Fault → Result (Unit {0}) WriteFailed → Type 0
RunsTo words files given old new answer written =
    (said : Option (List ℕ)) × LeadsTo words files given old said answer × TellsWrites answer written × LiesBelow written said new

-- ---- the program

-- A fault has the status 3.
abbrev pub exit_status : Result ℕ Fault → ℕ
exit_status (Ok status) = status
exit_status (Err fault) = 3

-- What lies below the line of a fault, by whether that was printed: help, where all was told.
abbrev pub HelpsBelow : Fault → Option (List ℕ) → Option (List ℕ) → Result (Unit {0}) Untold → Result (Unit {0}) Untold → Type 0
HelpsBelow fault line new (Ok done) (Err NoRoom) = Keeps line new
HelpsBelow fault line new (Ok done) told = (help : List ℕ) × IsHelpFor (call_fault fault) help × LiesThere help line new told
HelpsBelow fault line new (Err why) told = (told ≡ Err why) × Keeps line new

-- The line of a fault lies in the second writer, and below it help, where memory sufficed for that. Where a write failed a front of
-- both lies there, and where memory was refused for the line that of out of memory.
abbrev pub TellsFault : Fault → Option (List ℕ) → Option (List ℕ) → Result (Unit {0}) Untold → Type 0
TellsFault fault old new told =
    (line : Option (List ℕ)) × (printed : Result (Unit {0}) Untold) × Prints fault old line printed × HelpsBelow fault line new printed told

-- Beside an answer lie the lines of what was noted, and nothing else; none where memory was refused for them.
abbrev pub TellsBeside : Beside → Option (List ℕ) → Option (List ℕ) → Result (Unit {0}) Untold → Type 0
TellsBeside beside old new (Err NoRoom) = Keeps old new
TellsBeside beside old new told = (lines : List ℕ) × AreBesideLines beside lines × LiesThere lines old new told

abbrev pub Tells : Result ℕ Fault → Beside → Option (List ℕ) → Option (List ℕ) → Result (Unit {0}) Untold → Type 0
Tells (Ok status) beside old new told = TellsBeside beside old new told
Tells (Err fault) beside old new told = TellsFault fault old new told
