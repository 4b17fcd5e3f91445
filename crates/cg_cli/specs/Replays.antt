-- The report on operation lines, each answered before the next is read. Own.
use Rattle.std.specs.Prelude.{ℕ, ◌+◌, Bool, List, [], ◌∷◌, ◌++◌, length, nat_lt, ◌==◌, cond, Option, Some, None, Result, Ok, Err}
use Rattle.std.specs.Option.{ok_or}
use Rattle.std.specs.List.{slice_split}
use Rattle.cg_cgroup.specs.Identity.{Identity}
use Rattle.cg_model.specs.States.{State}
use Rattle.cg_model.specs.Clauses.{first}
use Rattle.cg_model.specs.Bars.{bars}
use Rattle.cg_model.specs.declared.operation.Op.{Op}
use Rattle.cg_model.specs.declared.outcome.Refusal.{Refusal}
use Rattle.cg_model.specs.declared.outcome.Outcome.{Outcome}
use Rattle.cg_model.specs.declared.outcome.Outcome.TheVariants.{Done, Refused}
use Rattle.cg_lines.specs.LineReading.{operation_at}
use Rattle.cg_lines.specs.declared.lines.fault.LineFault.TheVariants.{TooLong, BadWord, Cut}
use Rattle.cg_format.specs.Readings.{Reading}
use Rattle.cg_cli.specs.Arguments.{user_read, path_read}
use Rattle.cg_cli.specs.Courses.{Course, state_of, on_course, course_from, closing}
use Rattle.cg_cli.specs.May.{tree_read}
use Rattle.cg_cli.specs.ReplayFormats.{outcome_in, in_format}
use Rattle.cg_cli.specs.Reports.{Said, Report, report_on}
use Rattle.cg_cli.specs.declared.format.Format.{Format}
use Rattle.cg_cli.specs.declared.format.Format.TheVariants.{Lines}
use Rattle.cg_cli.specs.declared.replay.protocol.Protocol.{Protocol}
use Rattle.cg_faults.specs.declared.fault.CliFault.{CliFault}
use Rattle.cg_faults.specs.declared.fault.CliFault.TheVariants.{Line, TooManySteps}
use Rattle.cg_cgroup.specs.declared.files.Vocabulary.{Vocabulary}

abbrev pub most_operations : ℕ
most_operations = 65536

-- how many bytes a line has at most, without its newline
abbrev pub longest_line : ℕ
longest_line = 8192

abbrev pub is_newline : ℕ → Bool
is_newline b = b == 10

-- carried out, or refused for the first bar
abbrev pub outcome_by : Option Refusal → Outcome
outcome_by None = Done
outcome_by (Some bar) = Refused bar

abbrev pub outcome_of : State → Identity → Op → Outcome
outcome_of st user op = outcome_by (first (bars st user op))

-- Lines have numbers from 1. `done` is how many stand before.

-- nothing is looked at behind the last line that may be answered
abbrev pub within_steps : {A : Type 0} → ℕ → Result A CliFault → Result A CliFault
within_steps done answer = cond (nat_lt done most_operations) answer (Err TooManySteps)

-- the operation of a line, without its newline, which names controllers of a vocabulary
abbrev pub operation_read : Vocabulary → ℕ → List ℕ → Result Op CliFault
operation_read vocabulary done line =
    within_steps done
    (cond (nat_lt longest_line (length line)) (Err (Line (done + 1) TooLong)) (ok_or (operation_at vocabulary line) (Line (done + 1) BadWord)))

-- the end of the input: nothing stands behind the last newline, or a line that was cut
abbrev pub end_read : Course → ℕ → List ℕ → Result Course CliFault
end_read course done [] = Ok course
end_read course done (b ∷ bs) =
    within_steps done (Err (Line (done + 1) (cond (nat_lt longest_line (length (b ∷ bs))) TooLong Cut)))

abbrev pub end_said : Result Course CliFault → Said Course
end_said ending = record { text = []; ending = ending }

-- a text, and behind it that of a report
abbrev pub with_front : {A : Type 0} → List ℕ → Said A → Said A
with_front text report = record { text = text ++ report.text; ending = report.ending }

-- All pieces but the last are lines. Each is answered by its outcome, and the next in the tree that it leaves.
unfoldable pub replayed : Protocol → Course → Identity → ℕ → List (List ℕ) → Said Course
replayed protocol course user done [] = end_said (Ok course)
replayed protocol course user done (piece ∷ pieces) =
    elim pieces [
      | [] ↦ end_said (end_read course done piece)
      | next ∷ others ↦ report_on (operation_read protocol.vocabulary done piece) (λ op.
          with_front (outcome_in protocol.format op (outcome_of (state_of course) user op))
          (replayed protocol (on_course course user op) user (done + 1) pieces))
    ]

-- what is said of bytes behind `done` lines
unfoldable pub bytes_said : Protocol → Course → Identity → ℕ → List ℕ → Said Course
bytes_said protocol course user done bytes = replayed protocol course user done (slice_split is_newline bytes)

-- the same in lines
abbrev pub lines_said : Vocabulary → Course → Identity → ℕ → List ℕ → Said Course
lines_said vocabulary course user done bytes = bytes_said (in_format Lines vocabulary) course user done bytes

-- behind all lines, where none has a fault, what is said at the end
abbrev pub closed_in : Format → Said Course → Report
closed_in format said =
    elim said.ending [ Ok course ↦ with_front said.text (closing format course) | Err fault ↦ record { text = said.text; ending = Err fault } ]

abbrev pub closed : Said Course → Report
closed said = closed_in Lines said

-- what operations are carried out on, by the path of a subtree, where one is named, and what the tree's text is read as
abbrev pub course_read : Option (List ℕ) → Reading → Result Course CliFault
course_read None tree = elim (tree_read tree) [ Ok st ↦ course_from st None | Err fault ↦ Err fault ]
course_read (Some subtree) tree =
    elim (path_read subtree) [
      | Ok path ↦ elim (tree_read tree) [ Ok st ↦ course_from st (Some path) | Err fault ↦ Err fault ]
      | Err fault ↦ Err fault
    ]

-- What is said line by line. The user is looked at first, then the subtree's path, the tree's text, whether the subtree is
-- one that can be watched, and then the operations.
abbrev pub operations_report : Protocol → Reading → ℕ → List ℕ → Option (List ℕ) → List ℕ → Said Course
operations_report protocol tree uid gids subtree ops =
    report_on (user_read uid gids) (λ user. report_on (course_read subtree tree) (λ course. bytes_said protocol course user 0 ops))

abbrev pub lines_report : Vocabulary → Reading → ℕ → List ℕ → Option (List ℕ) → List ℕ → Said Course
lines_report vocabulary tree uid gids subtree ops = operations_report (in_format Lines vocabulary) tree uid gids subtree ops

-- The whole report: the lines, and behind them the verdict where a subtree is watched and no fault ended them.
abbrev pub replay_report : Vocabulary → Reading → ℕ → List ℕ → Option (List ℕ) → List ℕ → Report
replay_report vocabulary tree uid gids subtree ops = closed (lines_report vocabulary tree uid gids subtree ops)
