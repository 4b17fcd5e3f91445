-- What a replay has written by the time that it ends, and on its way. Own.
use Rattle.std.specs.Prelude.{◌≡◌, ℕ, ◌+◌, ◌*◌, ◌≤◌, Bool, true, false, List, [], ◌++◌, length, take, Option, Result, Ok, Err, IfSome}
use Rattle.std.specs.Prelude.{OnSome}
use Rattle.std.specs.List.{All}
use Rattle.std.specs.Io.{StartsWith}
use Rattle.std.specs.Io.KnownBytes.{Appends, Keeps, Consumes, IsAtEnd}
use Rattle.cg_cgroup.specs.Identity.{Identity}
use Rattle.cg_model.specs.declared.operation.Op.{Op}
use Rattle.cg_lines.specs.declared.lines.fault.LineFault.TheVariants.{Cut}
use Rattle.streams.specs.Written.{AppendsPart}
use Rattle.cg_cli.specs.Reports.{Said, fault_report}
use Rattle.cg_cli.specs.Courses.{Course, HasMade, state_of, on_course}
use Rattle.cg_cli.specs.ReplayFormats.{outcome_in}
use Rattle.cg_cli.specs.Replays.{most_operations, longest_line, is_newline, outcome_of, end_read, with_front, bytes_said}
use Rattle.cg_faults.specs.declared.fault.CliFault.{CliFault}
use Rattle.cg_cli.specs.declared.format.Format.{Format}
use Rattle.cg_cli.specs.declared.replay.protocol.Protocol.{Protocol}
use Rattle.cg_cli.specs.declared.replay.run.Run.{Run}
use Rattle.cg_faults.specs.declared.fault.CliFault.TheVariants.{Line, Read, Write, NoMemory}

-- ---- at the end

-- what is said of each text of operations, line by line
abbrev pub Reporting : Type 0
Reporting = List ℕ → Said Course

-- nothing is said behind the lines
abbrev pub whole : Said Course → Said Course
whole said = said

-- What was written is the report's text on a front of the operations: whole lines.
abbrev pub HasFront : Reporting → List ℕ → Option (List ℕ) → Option (List ℕ) → Type 0
HasFront report ops old new = (front : List ℕ) × (rest : List ℕ) × (ops ≡ front ++ rest) × Appends old new (report front).text

-- What a replay answers, and has written by then, where something may be said behind all lines. What it came to, or a fault
-- of the lines, is the report's, whose text is written: the lines of the operations before the fault. A failed write leaves
-- a part of the text, out of memory whole lines.
abbrev pub Replays : {A : Type 0} → (Said Course → Said A) → Reporting → List ℕ → Option (List ℕ) → Option (List ℕ) → Result A CliFault → Type 0
Replays close lines ops old new (Err Write) = AppendsPart old new (close (lines ops)).text
Replays close lines ops old new (Err NoMemory) = HasFront lines ops old new
Replays close lines ops old new (Err Read) = ⊥
Replays close lines ops old new ended = ((close (lines ops)).ending ≡ ended) × Appends old new (close (lines ops)).text

-- the bytes are a reader's, where those are known
abbrev pub AreOf : Option (List ℕ) → List ℕ → Type 0
AreOf known bytes = IfSome known (λ xs. bytes ≡ xs)

-- no fault stands in what was read: it ends behind a line, or in one
abbrev pub goes_on : Result Course CliFault → Bool
goes_on (Ok came) = true
goes_on (Err (Line number Cut)) = true
goes_on (Err fault) = false

-- The same over a reader that had `before` to give, and has `left`. Where a read failed, what was written are the lines of
-- the operations among the bytes that it gave.
abbrev pub ReplaysFrom : {A : Type 0} → (Said Course → Said A) → Reporting → Option (List ℕ) → Option (List ℕ) → Option (List ℕ) → Option (List ℕ) → Result A CliFault → Type 0
ReplaysFrom close lines before left old new (Err Read) =
    (given : List ℕ) × Consumes before left given × Appends old new (lines given).text × (goes_on (lines given).ending ≡ true)
ReplaysFrom close lines before left old new ended = (ops : List ℕ) × AreOf before ops × Replays close lines ops old new ended

-- ---- on the way

-- Where a replay stands between two pieces of its input: what `done` lines led to, and the bytes of a begun line.
pub record Standing : Type 0 where
  pub protocol : Protocol
  pub course : Course
  pub user : Identity
  pub line : List ℕ
  pub done : ℕ

abbrev pub standing_of : {C : Type 0} → (C → Course) → Run C → Standing
standing_of view run = record { protocol = run.protocol; course = view run.course; user = run.user; line = run.line.items; done = run.done }

abbrev pub from_start : Protocol → Course → Identity → Standing
from_start protocol course user = record { protocol = protocol; course = course; user = user; line = []; done = 0 }

-- what will be said of further bytes
abbrev pub coming : Standing → Reporting
coming at bytes = bytes_said at.protocol at.course at.user at.done (at.line ++ bytes)

-- what it comes to where no bytes follow
abbrev pub ending : Standing → Result Course CliFault
ending at = end_read at.course at.done at.line

-- how many bytes were taken at most
abbrev pub most_taken : Standing → ℕ
most_taken at = at.done * (longest_line + 1) + length at.line

-- The begun line has no newline and isn't too long; behind the last operation none is begun.
pub record IsWaiting (at : Standing) : Type 0 where
  pub made : HasMade at.done at.course
  pub one_line : All (λ b. is_newline b ≡ false) at.line
  pub short : length at.line ≤ longest_line
  pub few : most_taken at ≤ most_operations * (longest_line + 1)

-- Bytes led from one point of a replay to another, and something was written meanwhile: whatever follows, the report is
-- what was written, and then the report from there on.
pub record Leads (before after : Reporting) (bytes : List ℕ) (old new : Option (List ℕ)) : Type 0 where
  pub written : List ℕ
  pub appended : Appends old new written
  pub whole : (rest : List ℕ) → before (bytes ++ rest) ≡ with_front written (after rest)

-- what a piece of the input led to, of which a number of bytes was taken
abbrev pub Fed : Reporting → Reporting → List ℕ → Option (List ℕ) → Option (List ℕ) → Result ℕ CliFault → Type 0
Fed before after piece old new (Ok n) = (n ≤ length piece) × Leads before after (take n piece) old new
Fed before after piece old new (Err Write) = (rest : List ℕ) → AppendsPart old new (before (piece ++ rest)).text
Fed before after piece old new (Err NoMemory) = Keeps old new
Fed before after piece old new (Err Read) = ⊥
Fed before after piece old new (Err fault) = ((rest : List ℕ) → before (piece ++ rest) ≡ fault_report fault) × Keeps old new

-- the same of a piece that a reader showed, of which it gave the bytes that were taken; none at its end
abbrev pub ReadOn : Reporting → Reporting → Option (List ℕ) → Option (List ℕ) → Option (List ℕ) → Option (List ℕ) → Result ℕ CliFault → Type 0
ReadOn before after had left old new (Ok n) =
    (bytes : List ℕ) × (length bytes ≡ n) × Consumes had left bytes × Leads before after bytes old new × (n ≡ 0 → OnSome had (IsAtEnd left))
ReadOn before after had left old new (Err Read) = Keeps had left × Keeps old new
ReadOn before after had left old new (Err fault) =
    (piece : List ℕ) × IfSome had (λ xs. StartsWith xs piece) × Fed before after piece old new (Err fault)

-- What answering a line led to: its operation was made and its outcome written, or it has a fault.
abbrev pub Answered : Format → Result Op CliFault → Course → Course → Identity → Option (List ℕ) → Option (List ℕ) → Result (Unit {0}) CliFault → Type 0
Answered format read course now user old new (Ok done) =
    (op : Op) × (read ≡ Ok op) × (now ≡ on_course course user op) × Appends old new (outcome_in format op (outcome_of (state_of course) user op))
Answered format read course now user old new (Err Write) =
    (op : Op) × (read ≡ Ok op) × AppendsPart old new (outcome_in format op (outcome_of (state_of course) user op))
Answered format read course now user old new (Err NoMemory) = Keeps old new
Answered format read course now user old new (Err Read) = ⊥
Answered format read course now user old new (Err fault) = (read ≡ Err fault) × Keeps old new
