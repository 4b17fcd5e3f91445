-- What a fault of the command line is to the program, and what the program writes of a fault. Own.
use Rattle.std.specs.Prelude.{◌≢◌, ℕ, List, codes, Option, Some, None, Result, Ok, Err, ◌⊎◌}
use Rattle.std.specs.Io.KnownBytes.{Appends, Keeps}
use Rattle.arguments.specs.declared.fault.ArgumentsFault.{ArgumentsFault}
use Rattle.arguments.specs.declared.fault.ArgumentsFault.TheVariants as arguments
use Rattle.cg_faults.specs.FaultLines.{plain_line, fault_line}
use Rattle.streams.specs.Written.{AppendsPart}
use Rattle.cg_faults.specs.declared.fault.CliFault.{CliFault}
use Rattle.cg_faults.specs.declared.fault.CliFault.TheVariants.{NoMemory as MemoryFault}
use Rattle.commands.specs.declared.fault.Fault.{Fault}
use Rattle.commands.specs.declared.fault.Fault.TheVariants.{Usage, Cli}
use Rattle.commands.specs.declared.fault.Untold.{Untold}
use Rattle.commands.specs.declared.fault.Untold.TheVariants.{Write, NoMemory}

abbrev pub lifted : ArgumentsFault → Fault
lifted arguments.Usage = Usage
lifted arguments.NoMemory = Cli MemoryFault

-- the fault of a call, where it is one's
abbrev pub call_fault : Fault → Option CliFault
call_fault Usage = None
call_fault (Cli fault) = Some fault

abbrev pub printed_line : Fault → List ℕ
printed_line Usage = plain_line (codes "usage")
printed_line (Cli fault) = fault_line fault

-- the whole of a text, or a front of it
abbrev pub WritesFront : List ℕ → Option (List ℕ) → Option (List ℕ) → Type 0
WritesFront text old new = Appends old new text ⊎ AppendsPart old new text

-- All of a text lies there, a front of it where a write failed, or nothing where there was no memory for it.
abbrev pub LiesThere : List ℕ → Option (List ℕ) → Option (List ℕ) → Result (Unit {0}) Untold → Type 0
LiesThere text old new (Ok done) = Appends old new text
LiesThere text old new (Err Write) = AppendsPart old new text
LiesThere text old new (Err NoMemory) = Keeps old new

-- Of a fault its line. Where there was no memory for the line, that of out of memory takes its place.
abbrev pub Prints : Fault → Option (List ℕ) → Option (List ℕ) → Result (Unit {0}) Untold → Type 0
Prints fault old new (Ok done) = Appends old new (printed_line fault)
Prints fault old new (Err Write) = AppendsPart old new (printed_line fault)
Prints fault old new (Err NoMemory) = (fault ≢ Usage) × WritesFront (fault_line MemoryFault) old new
