use Rattle.std.proofs.Common.{◌≡◌, ◌≢◌, ◌<◌, ◌≤◌, ◌+◌, ◌↔◌, ℕ, List, length, Result, Err, Option, refl, ap, subst, ◌∙◌, arith}
use Rattle.std.specs.Io.KnownBytes.{Appends}
use Rattle.std.proofs.KnownBytes.{Keeps-refl}
use Rattle.cg_cgroup.specs.Identity.{Identity}
use Rattle.cg_model.specs.States.{State}
use Rattle.std.proofs.lemmas.Result.{err_from_is_err_and}
use Rattle.cg_model.specs.declared.operation.Op.{Op}
use Rattle.cg_model.specs.declared.outcome.Outcome.{Outcome}
use Rattle.cg_lines.specs.OperationLines.{spelling, IsInRange}
use Rattle.cg_cli.specs.ReplayFormats.{outcome_in}
use Rattle.cg_cli.specs.declared.format.Format.{Format}
use Rattle.cg_lines.specs.declared.lines.fault.LineFault.{LineFault}
use Rattle.cg_lines.specs.declared.lines.fault.LineFault.TheVariants.{TooLong, BadWord, Cut, NoMemory}
use Rattle.cg_cli.specs.Courses.{Course, state_of}
use Rattle.cg_faults.specs.Faults.{lifted_line}
use Rattle.cg_cli.specs.Replays.{operation_read, outcome_of}
use Rattle.cg_cli.specs.Replaying.{Answered}
use Rattle.streams.specs.Written.{AppendsPart}
use Rattle.cg_cli.proofs.ReplayLines.{operation_read_ok, operation_read_bad, operation_read_long, outcome_is}
use Rattle.cg_lines.proofs.OutcomeLaws.{outcome_shown}
use Rattle.cg_cli.proofs.replay.line.answer.Goals as goal
use Rattle.cg_cgroup.specs.declared.files.Vocabulary.{Vocabulary}

told_apart : ◌≡◌ {A = Result Op LineFault} (Err BadWord) (Err TooLong) → ⊥
told_apart same = cc

-- a line that gives no operation
faulty : (format : Format) (vocabulary : Vocabulary) (done : ℕ) (line : List ℕ) (course : Course) (user : Identity)
    (known : Option (List ℕ)) (fault : LineFault) → done < 65536
    → (◌≡◌ {A = Result Op LineFault} (Err fault) (Err TooLong)) ↔ (8192 < length line)
    → (◌≡◌ {A = Result Op LineFault} (Err fault) (Err BadWord) → (op : Op) → IsInRange vocabulary op → line ≢ spelling op)
    → (◌≡◌ {A = Result Op LineFault} (Err fault) (Err Cut) → ⊥)
    → Answered format (operation_read vocabulary done line) course course user known known (Err (lifted_line (done + 1) fault))
faulty format vocabulary done line course user known TooLong few long bad whole =
    (operation_read_long vocabulary done line few (long.0 refl), Keeps-refl known)
faulty format vocabulary done line course user known BadWord few long bad whole =
    let never : 8192 < length line → ⊥ = λ more. told_apart (long.1 more) in
    let short : length line ≤ 8192 = omega (arith, never) in
    (operation_read_bad vocabulary done line few short (bad refl), Keeps-refl known)
faulty format vocabulary done line course user known Cut few long bad whole = absurd (whole refl)
faulty format vocabulary done line course user known NoMemory few long bad whole = Keeps-refl known

pub returns-in-Err : goal.returns-in-Err
returns-in-Err g c =
    let told = c.in-Err.ensures in
    rw c.of_line.ensures
    (faulty c.args.protocol.format c.args.protocol.vocabulary c.args.done c.args.line.now (g.C.OnCourse.course c.args.course.now)
    c.args.user.now
    (g.W.Write.contents c.args.out.now)
    c.in-Err.fault
    c.requires.few told.too_long told.bad_word told.not_cut)

pub outcome_said-requires : goal.outcome_said-requires
outcome_said-requires g c = outcome_shown _ _ _ _ c.in_ok-outcome.ensures.outcome

-- what was written is the line of the outcome
outcome_line : (format : Format) (st : State) (user : Identity) (op : Op) (outcome : Outcome) (items text : List ℕ)
    → outcome ≡ outcome_of st user op → items ≡ outcome_in format op outcome → text ≡ items
    → text ≡ outcome_in format op (outcome_of st user op)
outcome_line format st user op outcome items text is said same = same ∙ said ∙ ap (outcome_in format op) is

pub returns-in_err-write_whole : goal.returns-in_err-write_whole
returns-in_err-write_whole g c =
    let op = c.in-Ok.op in
    let st = state_of (g.C.OnCourse.course c.args.course.now) in
    let told = c.in-Ok.ensures.ok in
    let line = outcome_line c.args.protocol.format st c.args.user.now op c.in_ok-outcome.outcome c.in_ok-text.text.items
    c.as_slice.result.now
    (outcome_is st c.args.user.now op c.in_ok-outcome.outcome c.in_ok-outcome.ensures.outcome) c.in_ok-text.ensures c.as_slice.ensures.value
    in
    let p = err_from_is_err_and c.from_residual-in_err-write_whole.result c.from_residual-in_err-write_whole.ensures.1 in
    rw (p.1, p.2) (
      op,
      operation_read_ok c.args.protocol.vocabulary c.args.done c.args.line.now op c.requires.few told.1 told.0 told.2,
      subst (AppendsPart (g.W.Write.contents c.args.out.now) (g.W.Write.contents c.write_whole.new.out)) line
          c.in_err-write_whole.ensures.err,
    )

pub returns : goal.returns
returns g c =
    let op = c.in-Ok.op in
    let st = state_of (g.C.OnCourse.course c.args.course.now) in
    let user = c.args.user.now in
    let outcome = c.in_ok-outcome.outcome in
    let told = c.in-Ok.ensures.ok in
    let made = c.in_ok-outcome.ensures in
    let line =
    outcome_line c.args.protocol.format st user op outcome c.in_ok-text.text.items c.as_slice.result.now
    (outcome_is st user op outcome made.outcome)
    c.in_ok-text.ensures c.as_slice.ensures.value in (
      op,
      operation_read_ok c.args.protocol.vocabulary c.args.done c.args.line.now op c.requires.few told.1 told.0 told.2,
      made.ok,
      subst (Appends (g.W.Write.contents c.args.out.now) (g.W.Write.contents c.write_whole.new.out)) line c.in_ok-write_whole.ensures.ok,
    )
