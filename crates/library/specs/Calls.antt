-- What a call of the program gives back, by which the library for C says what it does; of the program nobody has to believe it.
use Rattle.std.specs.Prelude.{◌≡◌, ◌≢◌, ◌⊎◌, ◌==◌, ◌∷◌, ℕ, List, [], codes, Option, Some, Result, Ok}
use Rattle.std.specs.List.{slice_split}
use Rattle.cg_faults.specs.FaultLines.{fault_line}
use Rattle.cg_faults.specs.declared.fault.CliFault.TheVariants.{NoMemory}
use Rattle.cg_help.specs.declared.beside.Beside.{Beside}
use Rattle.commands.specs.Requests.{Files}
use Rattle.commands.specs.Runs.{exit_status, Tells, RunsTo}
use Rattle.commands.specs.declared.fault.Fault.{Fault}
use Rattle.commands.specs.declared.fault.Untold.{Untold}
use Rattle.streams.specs.declared.write.WriteFailed.{WriteFailed}

-- what stands between the newlines of a text
abbrev pub pieces_in : List ℕ → List (List ℕ)
pieces_in lines = slice_split (λ b. b == 10) lines

-- A command line has the name of the program before its words.
abbrev pub words_in : List ℕ → List (List ℕ)
words_in lines = codes "zirofen" ∷ pieces_in lines

abbrev pub memory_line : List ℕ
memory_line = fault_line NoMemory

-- The text is all that a run on these words, files and input writes to standard output.
abbrev pub Answers : List (List ℕ) → Files → Option (List ℕ) → ℕ → List ℕ → Type 0
Answers words files given status text =
    (written : Result (Unit {0}) WriteFailed) × RunsTo words files given (Some []) (Some text) (Ok status) written

-- The text is the line of a fault, with help below it, or that of out of memory.
abbrev pub TellsWhy : ℕ → List ℕ → Type 0
TellsWhy status text =
    ((answer : Result ℕ Fault) × (beside : Beside) × (told : Result (Unit {0}) Untold) × (status ≡ exit_status answer)
    × Tells answer beside (Some []) (Some text) told)
    ⊎ (text ≡ memory_line)

-- What a text says beside a status: an answer, or beside that of a fault why there is none.
abbrev pub Says : List (List ℕ) → Files → Option (List ℕ) → ℕ → List ℕ → Type 0
Says words files given status text = (status ≢ 3 → Answers words files given status text) × (status ≡ 3 → TellsWhy status text)
