-- What the report on operation lines says first.
use Rattle.std.proofs.Common.{◌≡◌, ℕ, ◌+◌, ◌<◌, ◌≤◌, Bool, true, false, nat_lt, cond, List, [], ◌∷◌, ◌++◌, All, length, refl, ap, sym, ◌∙◌, length-append, arith}
use Rattle.std.proofs.lemmas.Bool.Decides.{nat_tests}
use Rattle.std.proofs.lemmas.List.Elements.{All-head, All-tail}
use Rattle.std.proofs.lemmas.List.Splits.{slice_split_none, slice_split_at}
use Rattle.std.specs.List.{slice_split, onto_first}
use Rattle.cg_cgroup.specs.Identity.{Identity}
use Rattle.cg_cli.specs.Courses.{Course, state_of, on_course}
use Rattle.cg_lines.specs.Outcomes.{outcome_text}
use Rattle.cg_cgroup.specs.declared.files.Vocabulary.{Vocabulary}
use Rattle.cg_lines.specs.declared.lines.fault.LineFault.TheVariants.{TooLong}
use Rattle.cg_cli.specs.ReplayFormats.{outcome_in, in_format}
use Rattle.cg_cli.specs.Reports.{fault_report, report_on}
use Rattle.cg_cli.specs.declared.format.Format.TheVariants.{Lines}
use Rattle.cg_cli.specs.declared.replay.protocol.Protocol.{Protocol}
use Rattle.cg_cli.specs.Replays.{is_newline, outcome_of, operation_read, end_read, end_said, with_front, replayed, bytes_said, lines_said}
use Rattle.cg_faults.specs.declared.fault.CliFault.TheVariants.{Line, TooManySteps}

-- the pieces are one and maybe more
record Pieces (bytes : List ℕ) : Type 0 where
  piece : List ℕ
  pieces : List (List ℕ)
  are : slice_split is_newline bytes ≡ piece ∷ pieces

of_onto : (b : ℕ) (bytes : List ℕ) → Pieces bytes → (c : Bool)
    → cond c ([] ∷ slice_split is_newline bytes) (onto_first b (slice_split is_newline bytes)) ≡ slice_split is_newline (b ∷ bytes)
    → Pieces (b ∷ bytes)
of_onto b bytes rest true e = record { piece = []; pieces = slice_split is_newline bytes; are = sym e }
of_onto b bytes rest false e = record { piece = b ∷ rest.piece; pieces = rest.pieces; are = sym e ∙ ap (onto_first b) rest.are }

pieces_of : (bytes : List ℕ) → Pieces bytes
pieces_of [] = record { piece = []; pieces = []; are = refl }
pieces_of (b ∷ bytes) = of_onto b bytes (pieces_of bytes) (is_newline b) refl

-- bytes without a newline stand before the first piece
front_of_first : (front rest : List ℕ) (first : List ℕ) (others : List (List ℕ)) → All (λ b. is_newline b ≡ false) front
    → slice_split is_newline rest ≡ first ∷ others
    → slice_split is_newline (front ++ rest) ≡ (front ++ first) ∷ others
front_of_first [] rest first others none e = e
front_of_first (b ∷ front) rest first others none e =
    ap (λ c. cond c ([] ∷ slice_split is_newline (front ++ rest)) (onto_first b (slice_split is_newline (front ++ rest))))
    (All-head (λ x. is_newline x ≡ false) b front none)
    ∙ ap (onto_first b) (front_of_first front rest first others (All-tail (λ x. is_newline x ≡ false) b front none) e)

-- a line: its operation's outcome, and then what is said of the rest; or its fault
pub said_of_line : (protocol : Protocol) (course : Course) (user : Identity) (done : ℕ) (line rest : List ℕ)
    → All (λ b. is_newline b ≡ false) line
    → bytes_said protocol course user done (line ++ 10 ∷ rest)
    ≡ report_on (operation_read protocol.vocabulary done line)
    (λ op. with_front (outcome_in protocol.format op (outcome_of (state_of course) user op))
    (bytes_said protocol (on_course course user op) user (done + 1) rest))
unfolding bytes_said replayed
said_of_line protocol course user done line rest none =
    let more = pieces_of rest in
    ap (replayed protocol course user done) (slice_split_at is_newline line 10 rest none refl ∙ ap (λ ps. line ∷ ps) more.are)
    ∙ ap (λ ps. report_on (operation_read protocol.vocabulary done line)
    (λ op. with_front (outcome_in protocol.format op (outcome_of (state_of course) user op))
    (replayed protocol (on_course course user op) user (done + 1) ps)))
    (sym more.are)

-- the end of the input
pub said_of_end : (protocol : Protocol) (course : Course) (user : Identity) (done : ℕ) (rest : List ℕ) → All (λ b. is_newline b
    ≡ false) rest
    → bytes_said protocol course user done rest ≡ end_said (end_read course done rest)
unfolding bytes_said replayed
said_of_end protocol course user done rest none = ap (replayed protocol course user done) (slice_split_none is_newline rest none)

long_first : (protocol : Protocol) (course : Course) (user : Identity) (done : ℕ) (first : List ℕ) (others : List (List ℕ))
    → 8192 < length first → done < 65536
    → replayed protocol course user done (first ∷ others) ≡ fault_report (Line (done + 1) TooLong)
unfolding replayed
long_first protocol course user done [] others long few = absurd (omega arith)
long_first protocol course user done (b ∷ bs) [] long few =
    let a : nat_lt done 65536 ≡ true = grind (arith, nat_tests) in
    let e : nat_lt 8192 (length (b ∷ bs)) ≡ true = grind (arith, nat_tests) in
    rw (a, e) refl
long_first protocol course user done (b ∷ bs) (next ∷ others) long few =
    let a : nat_lt done 65536 ≡ true = grind (arith, nat_tests) in
    let e : nat_lt 8192 (length (b ∷ bs)) ≡ true = grind (arith, nat_tests) in
    rw (a, e) refl

-- a line that is too long, whatever follows
pub said_of_long : (protocol : Protocol) (course : Course) (user : Identity) (done : ℕ) (line rest : List ℕ)
    → All (λ b. is_newline b ≡ false) line
    → 8192 < length line → done < 65536
    → bytes_said protocol course user done (line ++ rest) ≡ fault_report (Line (done + 1) TooLong)
unfolding bytes_said
said_of_long protocol course user done line rest none long few =
    let more = pieces_of rest in
    ap (replayed protocol course user done) (front_of_first line rest more.piece more.pieces none more.are)
    ∙ long_first protocol course user done (line ++ more.piece) more.pieces (omega (arith, length-append line more.piece)) few

-- behind the last line that is answered: a further one, or bytes of one
one_more : (protocol : Protocol) (course : Course) (user : Identity) (done : ℕ) (first next : List ℕ) (others : List (List ℕ))
    → 65536 ≤ done
    → replayed protocol course user done (first ∷ next ∷ others) ≡ fault_report TooManySteps
unfolding replayed
one_more protocol course user done first next others many =
    let a : nat_lt done 65536 ≡ false = grind (arith, nat_tests) in
    rw a refl

bytes_more : (protocol : Protocol) (course : Course) (user : Identity) (done b : ℕ) (bs : List ℕ) (others : List (List ℕ))
    → 65536 ≤ done
    → replayed protocol course user done ((b ∷ bs) ∷ others) ≡ fault_report TooManySteps
unfolding replayed
bytes_more protocol course user done b bs [] many =
    let a : nat_lt done 65536 ≡ false = grind (arith, nat_tests) in
    rw a refl
bytes_more protocol course user done b bs (next ∷ others) many = one_more protocol course user done (b ∷ bs) next others many

many_at : (protocol : Protocol) (course : Course) (user : Identity) (done b : ℕ) (bytes : List ℕ) → 65536 ≤ done → Pieces bytes
    → (c : Bool)
    → replayed protocol course user done (cond c ([] ∷ slice_split is_newline bytes) (onto_first b (slice_split is_newline bytes)))
    ≡ fault_report TooManySteps
many_at protocol course user done b bytes many rest true =
    ap (λ ps. replayed protocol course user done ([] ∷ ps)) rest.are ∙ one_more protocol course user done [] rest.piece rest.pieces many
many_at protocol course user done b bytes many rest false =
    ap (λ ps. replayed protocol course user done (onto_first b ps)) rest.are
    ∙ bytes_more protocol course user done b rest.piece rest.pieces many

-- more than may be answered
pub said_of_many : (protocol : Protocol) (course : Course) (user : Identity) (done : ℕ) (rest : List ℕ) → 65536 ≤ done
    → 0 < length rest
    → bytes_said protocol course user done rest ≡ fault_report TooManySteps
unfolding bytes_said
said_of_many protocol course user done [] many some = absurd (omega arith)
said_of_many protocol course user done (b ∷ bytes) many some =
    many_at protocol course user done b bytes many (pieces_of bytes) (is_newline b)

-- ---- in lines

pub report_of_line : (vocabulary : Vocabulary) (course : Course) (user : Identity) (done : ℕ) (line rest : List ℕ)
    → All (λ b. is_newline b ≡ false) line
    → lines_said vocabulary course user done (line ++ 10 ∷ rest)
    ≡ report_on (operation_read vocabulary done line)
    (λ op. with_front (outcome_text op (outcome_of (state_of course) user op)) (lines_said vocabulary (on_course course user op) user
    (done + 1) rest))
report_of_line vocabulary course user done line rest none =
    said_of_line (in_format Lines vocabulary) course user done line rest none

pub report_of_end : (vocabulary : Vocabulary) (course : Course) (user : Identity) (done : ℕ) (rest : List ℕ)
    → All (λ b. is_newline b ≡ false) rest → lines_said vocabulary course user done rest ≡ end_said (end_read course done rest)
report_of_end vocabulary course user done rest none = said_of_end (in_format Lines vocabulary) course user done rest none
