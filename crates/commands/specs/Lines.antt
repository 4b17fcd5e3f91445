-- What the lines of a text name, each by itself. Own.
use Rattle.std.specs.Prelude.{ℕ, ◌+◌, Bool, true, false, nat_lt, List, [], ◌∷◌, ◌++◌, length, take, Option, Some, None, Result, Ok, Err}
use Rattle.std.specs.List.{slice_split}
use Rattle.cg_lines.specs.declared.lines.fault.LineFault.TheVariants.{TooLong, BadWord, Cut}
use Rattle.cg_cli.specs.AllPairs.{read_then}
use Rattle.cg_cli.specs.Replays.{is_newline}
use Rattle.cg_faults.specs.declared.fault.CliFault.{CliFault}
use Rattle.cg_faults.specs.declared.fault.CliFault.TheVariants.{Line}

-- Lines have numbers from 1. `done` is how many stand before.

-- how a line is read: what it names, or the fault that it has
abbrev pub LineReading : Type 0 → Type 0
LineReading A = ℕ → List ℕ → Result (List A) CliFault

-- a line that has to name one thing
abbrev pub one_read : {A : Type 0} → ℕ → Option A → Result (List A) CliFault
one_read done None = Err (Line (done + 1) BadWord)
one_read done (Some named) = Ok (named ∷ [])

-- The end: nothing stands behind the last newline, or a line that was cut, or is more than is looked at.
abbrev pub end_fault : Bool → ℕ → List ℕ → Option CliFault
end_fault true done rest = Some (Line (done + 1) TooLong)
end_fault false done [] = None
end_fault false done (b ∷ bs) = Some (Line (done + 1) Cut)

abbrev pub nothing_unless : {A : Type 0} → Option CliFault → Result (List A) CliFault
nothing_unless None = Ok []
nothing_unless (Some fault) = Err fault

-- what is named before what others name
abbrev pub followed_by : {A : Type 0} → Result (List A) CliFault → Result (List A) CliFault → Result (List A) CliFault
followed_by front back = read_then front (λ named. read_then back (λ others. Ok (named ++ others)))

-- All pieces but the last are lines. The first fault ends them.
abbrev pub pieces_read : {A : Type 0} → LineReading A → Bool → ℕ → List (List ℕ) → Result (List A) CliFault
pieces_read line long done [] = Ok []
pieces_read line long done (piece ∷ pieces) =
    elim pieces [
      | [] ↦ nothing_unless (end_fault long done piece)
      | next ∷ others ↦ followed_by (line done piece) (pieces_read line long (done + 1) pieces)
    ]

-- the largest number of bytes of a text of lines
abbrev pub longest_lines : ℕ
longest_lines = 16777216

-- the lines of a text, of which nothing is looked at behind that number of bytes
abbrev pub lines_read : {A : Type 0} → LineReading A → List ℕ → Result (List A) CliFault
lines_read line text =
    pieces_read line (nat_lt longest_lines (length text)) 0 (slice_split is_newline (take longest_lines text))
