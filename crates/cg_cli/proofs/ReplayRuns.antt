-- A replay on its way: what bytes led to, and what is said of the rest.
use Rattle.std.proofs.Common.{◌≡◌, ℕ, ◌+◌, ◌<◌, ◌≤◌, false, List, [], ◌∷◌, ◌++◌, All, length, take, drop, get_or, Option, Result, Ok, Err}
use Rattle.std.proofs.Common.{IsErrAnd, ap, sym, ◌∙◌, subst, append_assoc, length-append, take-append-drop, arith}
use Rattle.std.proofs.lemmas.List.{take_more, take-append-le}
use Rattle.std.proofs.lemmas.List.Elements.{All-append}
use Rattle.std.specs.Io.KnownBytes.{Appends}
use Rattle.cg_cli.specs.Courses.{Course, state_of, on_course}
use Rattle.cg_model.specs.declared.operation.Op.{Op}
use Rattle.cg_lines.specs.declared.lines.fault.LineFault.TheVariants.{TooLong}
use Rattle.streams.specs.Written.{AppendsPart}
use Rattle.cg_cli.specs.ReplayFormats.{outcome_in}
use Rattle.cg_cli.specs.Reports.{Said, fault_report, report_on}
use Rattle.cg_cli.specs.Replays.{is_newline, outcome_of, operation_read, with_front, bytes_said}
use Rattle.cg_cli.specs.Replaying.{Reporting, Standing, coming, Leads, Fed, Answered}
use Rattle.cg_faults.specs.declared.fault.CliFault.{CliFault}
use Rattle.cg_faults.specs.declared.fault.CliFault.TheVariants.{Line, TooManySteps, Write, Read, NoMemory}
use Rattle.cg_cli.proofs.ReportLaws.{handed_on}
use Rattle.cg_cli.proofs.ReplayReports.{said_of_line, said_of_long, said_of_many}

-- ---- what was written

-- a part of a text is a part of a longer one
pub part_of_front : (old new : Option (List ℕ)) (front rest : List ℕ) → AppendsPart old new front → AppendsPart old new (front ++ rest)
part_of_front old new front rest part = (
  part.0,
  omega (arith, part.1, length-append front rest),
  subst (Appends old new) (sym (take-append-le part.0 front rest (omega (arith, part.1)))) part.2,
)

-- ---- a piece of the input

-- a newline behind the bytes up to `end`
line_ends : (line piece rest : List ℕ) (end : ℕ) → end < length piece → get_or piece end 0 ≡ 10
    → line ++ (take (end + 1) piece ++ rest) ≡ (line ++ take end piece) ++ 10 ∷ rest
line_ends line piece rest end within newline =
    ap (λ l. line ++ (l ++ rest)) (take_more piece end 0 within ∙ ap (λ b. take end piece ++ b ∷ []) newline)
    ∙ ap (λ l. line ++ l) (append_assoc (take end piece) (10 ∷ []) rest) ∙ sym (append_assoc line (take end piece) (10 ∷ rest))

-- the bytes up to `end` and all others
line_goes_on : (line piece rest : List ℕ) (end : ℕ) → line ++ (piece ++ rest) ≡ (line ++ take end piece) ++ (drop end piece ++ rest)
line_goes_on line piece rest end =
    ap (λ l. line ++ (l ++ rest)) (sym (take-append-drop end piece))
    ∙ ap (λ l. line ++ l) (append_assoc (take end piece) (drop end piece) rest)
    ∙ sym (append_assoc line (take end piece) (drop end piece ++ rest))

module _ (at : Standing) (piece : List ℕ) (end : ℕ) where
  abbrev whole : List ℕ
  whole = at.line ++ take end piece

  -- what is said of a line that is whole, and of what follows it
  abbrev answered_before : List ℕ → Result Op CliFault → Said Course
  answered_before rest read =
      report_on read (λ op. with_front (outcome_in at.protocol.format op (outcome_of (state_of at.course) at.user op))
      (bytes_said at.protocol (on_course at.course at.user op) at.user (at.done + 1) rest))

  there : All (λ b. is_newline b ≡ false) whole → end < length piece → get_or piece end 0 ≡ 10 → (rest : List ℕ)
      → coming at (take (end + 1) piece ++ rest)
      ≡ answered_before rest (operation_read at.protocol.vocabulary at.done whole)
  there none within newline rest =
      ap (bytes_said at.protocol at.course at.user at.done) (line_ends at.line piece rest end within newline)
      ∙ said_of_line at.protocol at.course at.user at.done whole rest none

  line_answered : All (λ b. is_newline b ≡ false) whole → end < length piece → get_or piece end 0 ≡ 10
      → (now : Course) (old new : Option (List ℕ))
      → Answered at.protocol.format (operation_read at.protocol.vocabulary at.done whole) at.course now at.user old new (Ok tt)
      → Leads (coming at) (coming
      (record { protocol = at.protocol; course = now; user = at.user; line = []; done = at.done + 1 })) (take (end + 1) piece) old new
  line_answered none within newline now old new answered =
      let op = answered.0 in
      let said = outcome_in at.protocol.format op (outcome_of (state_of at.course) at.user op) in
      record {
        written = said;
        appended = answered.3;
        whole = λ rest.
            there none within newline rest
            ∙ ap (answered_before rest) answered.1
            ∙ ap (λ s. with_front said (bytes_said at.protocol s at.user (at.done + 1) rest)) (sym answered.2);
      }

  -- the same where the piece goes on
  further : All (λ b. is_newline b ≡ false) whole → end < length piece → get_or piece end 0 ≡ 10 → (rest : List ℕ)
      → coming at (piece ++ rest)
      ≡ answered_before (drop (end + 1) piece ++ rest) (operation_read at.protocol.vocabulary at.done whole)
  further none within newline rest =
      ap (λ l. coming at l)
      (ap (λ l. l ++ rest) (sym (take-append-drop (end + 1) piece)) ∙ append_assoc (take (end + 1) piece) (drop (end + 1) piece) rest)
      ∙ there none within newline (drop (end + 1) piece ++ rest)

  fault_further : All (λ b. is_newline b ≡ false) whole → end < length piece → get_or piece end 0 ≡ 10
      → (fault : CliFault) → operation_read at.protocol.vocabulary at.done whole ≡ Err fault → (rest : List ℕ) → coming at (piece ++ rest)
      ≡ fault_report fault
  fault_further none within newline fault read rest =
      further none within newline rest
      ∙ ap (answered_before (drop (end + 1) piece ++ rest)) read

  line_failed : All (λ b. is_newline b ≡ false) whole → end < length piece → get_or piece end 0 ≡ 10
      → (now : Course) (old new : Option (List ℕ)) (then : Reporting) (fault : CliFault)
      → Answered at.protocol.format (operation_read at.protocol.vocabulary at.done whole) at.course now at.user old new (Err fault)
      → Fed (coming at) then piece old new (Err fault)
  line_failed none within newline now old new then Write answered =
      λ rest.
      let said = outcome_in at.protocol.format answered.0 (outcome_of (state_of at.course) at.user answered.0) in
      let e = further none within newline rest
      ∙ ap (answered_before (drop (end + 1) piece ++ rest)) answered.1 in
      subst (AppendsPart old new) (sym (ap (λ (r : Said Course). r.text) e))
      (part_of_front old new said
      (bytes_said at.protocol (on_course at.course at.user answered.0) at.user (at.done + 1) (drop
      (end + 1) piece ++ rest)).text answered.2)
  line_failed none within newline now old new then NoMemory answered = answered
  line_failed none within newline now old new then Read answered = answered
  line_failed none within newline now old new then fault answered = (fault_further none within newline fault answered.0, answered.1)

  -- an answer to a line that is whole: it was begun, and its newline is in the piece
  module _ (held : List ℕ) (is : held ≡ whole) (one_line : All (λ b. is_newline b ≡ false) at.line)
      (more : All (λ b. is_newline b ≡ false) (take end piece)) (within : end < length piece)
      (newline : end < length piece → get_or piece end 0 ≡ 10)
      (now : Course) (old new : Option (List ℕ)) where
    all_one_line : All (λ b. is_newline b ≡ false) whole
    all_one_line = All-append (λ b. is_newline b ≡ false) at.line (take end piece) one_line more

    pub fed_answer : Answered at.protocol.format (operation_read at.protocol.vocabulary at.done held) at.course now at.user old new (Ok tt)
        → (left : List ℕ) → left ≡ []
        → Leads (coming at) (coming (record { protocol = at.protocol; course = now; user = at.user; line = left; done = at.done + 1 }))
        (take (end + 1) piece) old new
    fed_answer answered left none =
        let leads = line_answered all_one_line within (newline within) now old new
        (subst (λ bytes.
        Answered at.protocol.format (operation_read at.protocol.vocabulary at.done bytes) at.course now at.user old new (Ok tt))
        is answered) in
        subst (λ l. Leads (coming at) (coming
        (record { protocol = at.protocol; course = now; user = at.user; line = l; done = at.done + 1 }))
        (take (end + 1) piece) old new)
        (sym {A = List ℕ} none) leads

    pub fed_fault : (then : Reporting) (fault : CliFault)
        → Answered at.protocol.format (operation_read at.protocol.vocabulary at.done held) at.course now at.user old new (Err fault)
        → (result : Result ℕ CliFault) → IsErrAnd result (λ found. found ≡ fault)
        → Fed (coming at) then piece old new result
    fed_fault then fault answered result handed =
        handed_on (Fed (coming at) then piece old new) fault result handed
        (line_failed all_one_line within (newline within) now old new then fault
        (subst (λ bytes.
        Answered at.protocol.format (operation_read at.protocol.vocabulary at.done bytes) at.course now at.user old new (Err fault))
        is answered))

  -- the line is too long
  pub fed_long : All (λ b. is_newline b ≡ false) whole → 8192 < length whole → at.done < 65536 → (rest : List ℕ)
      → coming at (piece ++ rest) ≡ fault_report (Line (at.done + 1) TooLong)
  fed_long none long few rest =
      ap (bytes_said at.protocol at.course at.user at.done) (line_goes_on at.line piece rest end)
      ∙ said_of_long at.protocol at.course at.user at.done whole (drop end piece ++ rest) none long few

-- a line too many
pub fed_many : (at : Standing) (piece : List ℕ) → 65536 ≤ at.done → 0 < length piece → (rest : List ℕ)
    → coming at (piece ++ rest) ≡ fault_report TooManySteps
fed_many at piece many some rest =
    said_of_many at.protocol at.course at.user at.done (at.line ++ (piece ++ rest)) many
    (omega (arith, length-append at.line (piece ++ rest), length-append piece rest))
