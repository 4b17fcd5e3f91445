-- The lines of an escape are replayed one by one, and break the subtree.
use Rattle.std.proofs.Common.{◌≡◌, ℕ, ◌+◌, ◌<◌, ◌≤◌, Bool, true, false, nat_lt, nat_eq, cond, not, List, [], ◌∷◌, ◌++◌, length, Option, Some, None, is_some, Result, Ok, Err, refl, ap, sym, ◌∙◌, subst, append_assoc, append-nil, true≢false, arith, codes, inl, inr}
use Rattle.std.specs.Option.{ok_or}
use Rattle.std.specs.List.{AllByRecursion}
use Rattle.std.specs.FinMap as finite
use Rattle.std.proofs.lemmas.Bool.{lt-ltb, le-ltb}
use Rattle.std.proofs.lemmas.List.Elements.{All-nil}
use Rattle.cg_cgroup.specs.Identity.{Identity}
use Rattle.cg_cgroup.specs.Users.{is_user}
use Rattle.cg_cgroup.specs.Paths.{Names, is_root}
use Rattle.cg_cgroup.specs.declared.cgroup.Cgroup.{Cgroup}
use Rattle.cg_model.specs.States.{State, row_at}
use Rattle.cg_model.specs.WellFormed.{has_row}
use Rattle.cg_model.specs.Clauses.{unless, first}
use Rattle.cg_model.specs.Steps.{Deed}
use Rattle.cg_model.specs.declared.operation.Op.{Op}
use Rattle.cg_model.specs.declared.outcome.Outcome.{Outcome}
use Rattle.cg_model.specs.declared.outcome.Outcome.TheVariants.{Done, Refused}
use Rattle.cg_model.specs.Guards.{IsSubtree}
use Rattle.cg_model.specs.Verdicts.{verdict}
use Rattle.cg_model.specs.Held.{by_user}
use Rattle.cg_model.specs.Replays.{Progress, stepped}
use Rattle.cg_runs.specs.Replays.{IsRunOf}
use Rattle.cg_model.specs.declared.verdict.Clause.{Clause}
use Rattle.cg_model.specs.declared.verdict.Verdict.{Verdict}
use Rattle.cg_model.specs.declared.verdict.Verdict.TheVariants.{Kept, Broken}
use Rattle.cg_model.specs.declared.fault.CheckFault.{CheckFault}
use Rattle.cg_model.specs.declared.fault.CheckFault.TheVariants.{RootSubtree, NoSuchSubtree}
use Rattle.cg_runs.proofs.ReplayLaws.{run-stepped}
use Rattle.cg_model.specs.Answers.{answer}
use Rattle.cg_model.specs.Checks.{subtree_faults, unless_fault, checked}
use Rattle.cg_model.specs.declared.answer.Answer.{Answer}
use Rattle.cg_model.specs.declared.answer.Answer.TheVariants.{Contained, Escapes, Unsettled}
use Rattle.cg_check.proofs.AnswerLaws.{escape-broken}
use Rattle.cg_lines.specs.OperationLines.{spelling, HasLine, HaveLines}
use Rattle.cg_lines.specs.Outcomes.{path_of, refusal_text, outcome_text}
use Rattle.cg_lines.proofs.LineLaws.{line_again}
use Rattle.cg_lines.proofs.LineLengths.{one_line}
use Rattle.cg_report.specs.AnswerLines.{op_lines}
use Rattle.cg_report.specs.VerdictLines.{verdict_text}
use Rattle.cg_escapes.proofs.EscapeLines.{escape_lines}
use Rattle.cg_format.specs.Readings.{Reading, IsReading, vocabulary_in}
use Rattle.cg_format.specs.TextOf.{IsTextOf}
use Rattle.cg_format.specs.declared.fault.TreeFault.{TreeFault}
use Rattle.cg_format.proofs.OneState.{paths_are_paths, pids_are_pids}
use Rattle.cg_faults.specs.Faults.{lifted}
use Rattle.cg_cli.specs.Arguments.{user_read, path_read}
use Rattle.cg_cli.specs.May.{tree_read}
use Rattle.cg_cli.specs.Reports.{Said, Report, report_on}
use Rattle.cg_cli.specs.Containment.{in_call, answer_status, answer_report, subtree_report, check_report}
use Rattle.cg_cli.specs.Courses.{Course, Unwatched, Watched, state_of, on_course, course_from, verdict_status}
use Rattle.cg_cli.specs.Replays.{outcome_of, operation_read, with_front, lines_said, closed, course_read, replay_report}
use Rattle.cg_escapes.specs.EscapeReplays.{AreLines, EndsBroken, IsReplayed}
use Rattle.cg_faults.specs.declared.fault.CliFault.{CliFault}
use Rattle.cg_faults.specs.declared.fault.CliFault.TheVariants.{Subtree, Uid, Gids}
use Rattle.cg_cli.proofs.ReplayReports.{report_of_line, report_of_end}
use Rattle.cg_cli.proofs.CheckReports.{report_is, of_bytes}
use Rattle.cg_cgroup.specs.declared.files.Vocabulary.{Vocabulary}
use Rattle.cg_escapes.proofs.Worded.{text_worded}

-- ---- operations whose lines are replayed

-- where operations lead
abbrev pub on_all : Course → Identity → List Op → Course
on_all course user [] = course
on_all course user (op ∷ ops) = on_all (on_course course user op) user ops

-- the lines of their outcomes
abbrev pub said_of : Course → Identity → List Op → List ℕ
said_of course user [] = []
said_of course user (op ∷ ops) = outcome_text op (outcome_of (state_of course) user op) ++ said_of (on_course course user op) user ops

-- a line that can be read
line_is_read : (vocabulary : Vocabulary) (done : ℕ) (op : Op) → HasLine vocabulary op → done < 65536
    → operation_read vocabulary done (spelling op) ≡ Ok op
line_is_read vocabulary done op line few =
    let a : nat_lt done 65536 ≡ true = lt-ltb done 65536 few in
    let b : nat_lt 8192 (length (spelling op)) ≡ false = le-ltb 8192 (length (spelling op)) line.1 in
    let c = line_again vocabulary op line.0 in
    rw (a, b, c) refl

-- the line of an outcome ends with its newline
outcome_line : (op : Op) (outcome : Outcome) → (others : List ℕ) × (outcome_text op outcome ≡ others ++ 10 ∷ [])
outcome_line op Done = (codes "ok", refl)
outcome_line op (Refused refusal) = (codes "refused " ++ refusal_text (path_of op) refusal, refl)

line_and_lines : (line text : List ℕ) → (others : List ℕ) × (line ≡ others ++ 10 ∷ []) → AreLines text → AreLines (line ++ text)
line_and_lines line text one (inl none) = inr (one.0, ap (λ t. line ++ t) none ∙ append-nil line ∙ one.1)
line_and_lines line text one (inr rest) = inr (line ++ rest.0, ap (λ t. line ++ t) rest.1 ∙ sym (append_assoc line rest.0 (10 ∷ [])))

are_lines : (user : Identity) (ops : List Op) (course : Course) → AreLines (said_of course user ops)
are_lines user [] course = inl refl
are_lines user (op ∷ ops) course =
    line_and_lines _ _ (outcome_line op (outcome_of (state_of course) user op)) (are_lines user ops (on_course course user op))

-- each is answered by a line, and behind them what follows is said
pub said_before : (vocabulary : Vocabulary) (user : Identity) (ops : List Op) (course : Course) (done : ℕ) (rest : List ℕ)
    → AllByRecursion (HasLine vocabulary) ops
    → done + length ops ≤ 65536
    → lines_said vocabulary course user done (op_lines ops ++ rest)
    ≡ with_front (said_of course user ops) (lines_said vocabulary (on_all course user ops) user (done + length ops) rest)
said_before vocabulary user [] course done rest all few =
    let none : done ≡ done + 0 = omega arith in ap (λ n. with_front [] (lines_said vocabulary course user n rest)) none
said_before vocabulary user (op ∷ ops) course done rest all few =
    let said = outcome_text op (outcome_of (state_of course) user op) in
    let next = on_course course user op in
    let more : (done + 1) + length ops ≡ done + length (op ∷ ops) = omega arith in
    let tail = said_before vocabulary user ops next (done + 1) rest all.1 (omega (arith, few)) in
    ap (lines_said vocabulary course user done)
    (append_assoc (spelling op ++ 10 ∷ []) (op_lines ops) rest ∙ append_assoc (spelling op) (10 ∷ []) _)
    ∙ report_of_line vocabulary course user done (spelling op) (op_lines ops ++ rest) (one_line vocabulary op all.0.0)
    ∙ ap (λ read. report_on read (λ op. with_front (outcome_text op (outcome_of (state_of course) user op))
    (lines_said vocabulary (on_course course user op) user (done + 1) (op_lines ops ++ rest))))
    (line_is_read vocabulary done op all.0 (omega (arith, few)))
    ∙ ap (with_front said) (tail ∙ ap (λ n. with_front (said_of next user ops) (lines_said vocabulary
    (on_all next user ops) user n rest)) more)
    ∙ fronts said (said_of next user ops) (lines_said vocabulary (on_all next user ops) user (done + length (op ∷ ops)) rest)
  where
    fronts : {A : Type 0} (text other : List ℕ) (report : Said A)
        → with_front text (with_front other report) ≡ with_front (text ++ other) report
    fronts text other report = ap (λ all. record { text = all; ending = report.ending }) (sym (append_assoc text other report.text))

-- and where none follows no fault is met
pub all_said : (vocabulary : Vocabulary) (user : Identity) (ops : List Op) (course : Course) → HaveLines vocabulary ops
    → lines_said vocabulary course user 0 (op_lines ops) ≡ record { text = said_of course user ops; ending = Ok (on_all course user ops) }
all_said vocabulary user ops course lines =
    ap (lines_said vocabulary course user 0) (sym (append-nil (op_lines ops)))
    ∙ said_before vocabulary user ops course 0 [] lines.0 (omega (arith, lines.1))
    ∙ ap (with_front (said_of course user ops)) (report_of_end vocabulary (on_all course user ops) user (0 + length ops) [] (All-nil _))
    ∙ ap (λ text. record { text = text; ending = Ok (on_all course user ops) }) (append-nil (said_of course user ops))

-- what is said is the same of a course that isn't watched
said_unwatched : (user : Identity) (ops : List Op) (run : Progress)
    → said_of (Watched run) user ops ≡ said_of (Unwatched run.state) user ops
said_unwatched user [] run = refl
said_unwatched user (op ∷ ops) run =
    ap (λ rest. outcome_text op (outcome_of run.state user op) ++ rest) (said_unwatched user ops (stepped run user op))

-- ---- the verdict

-- the run of a watched course with these operations more
record RunsOn (run : Progress) (user : Identity) (ops : List Op) (start : State) (deeds : List Deed) : Type 0 where
  to : Progress
  course : on_all (Watched run) user ops ≡ Watched to
  subtree : to.subtree ≡ run.subtree
  run_of : IsRunOf to start (deeds ++ by_user user ops)

runs_on : (user : Identity) (ops : List Op) (run : Progress) (start : State) (deeds : List Deed) → IsRunOf run start deeds
    → RunsOn run user ops start deeds
runs_on user [] run start deeds is =
    record { to = run; course = refl; subtree = refl; run_of = subst (IsRunOf run start) (sym (append-nil deeds)) is }
runs_on user (op ∷ ops) run start deeds is =
    let rest = runs_on user ops (stepped run user op) start (deeds ++ (user, op) ∷ []) (run-stepped run start deeds user op is) in
    record {
      to = rest.to;
      course = rest.course;
      subtree = rest.subtree;
      run_of = subst (IsRunOf rest.to start) (append_assoc deeds ((user, op) ∷ []) (by_user user ops)) rest.run_of;
    }

broken_of : (found : Verdict) → (found ≡ Kept → ⊥) → (steps : ℕ) × (clause : Clause) × (found ≡ Broken steps clause)
broken_of Kept never = absurd (never refl)
broken_of (Broken steps clause) never = (steps, clause, refl)

-- ---- what was read

pub report_ok : {A : Type 0} (read : Result A CliFault) (report : A → Report) (status : ℕ) → (report_on read report).ending ≡ Ok status
    → (x : A) × (read ≡ Ok x) × ((report x).ending ≡ Ok status)
report_ok (Ok x) report status is = (x, refl, is)
report_ok (Err fault) report status is = cc

tree_ok : (read : Result State TreeFault) (st : State)
    → elim read as (λ _. Result State CliFault) [ Ok st ↦ Ok st | Err fault ↦ Err (lifted fault) ] ≡ Ok st → read ≡ Ok st
tree_ok (Ok one) st is = let same : one ≡ st = cc in ap Ok same
tree_ok (Err fault) st is = cc

pub found_is : {A : Type 0} (found : Result A CheckFault) (one : A) → in_call found ≡ Ok one → found ≡ Ok one
found_is (Ok some) one is = cc
found_is (Err fault) one is = cc

pub status_is : (status other : ℕ) → ◌≡◌ {A = Result ℕ CliFault} (Ok status) (Ok other) → status ≡ other
status_is status other is = cc

escapes_of : (found : Answer) → answer_status found ≡ 1 → (ops : List Op) × (found ≡ Escapes ops)
escapes_of Contained is = cc
escapes_of (Escapes ops) is = (ops, refl)
escapes_of (Unsettled failed) is = cc

pub unfaulted : {A : Type 0} (fault : Option CheckFault) (stated found : A) → unless_fault fault stated ≡ Ok found
    → (fault ≡ None) × (stated ≡ found)
unfaulted None stated found is = (refl, cc)
unfaulted (Some fault) stated found is = cc

sub_of : (root there : Bool) → first (unless (not root) RootSubtree ++ unless there NoSuchSubtree) ≡ None → (there ≡ true) × (root ≡ false)
sub_of false true is = (refl, refl)
sub_of false false is = cc
sub_of true there is = cc

row_of : (found : Option Cgroup) → is_some found ≡ true → (row : Cgroup) × (found ≡ Some row)
row_of None is = absurd (true≢false (sym is))
row_of (Some row) is = (row, refl)

-- the course of a tree, by whether the path is the root and by its cgroup
abbrev course_by : State → Names → Bool → Option Cgroup → Result Course CliFault
course_by st path root found =
    cond root (Err (Subtree RootSubtree)) (elim found [
      | None ↦ Err (Subtree NoSuchSubtree)
      | Some row ↦ Ok (Watched (record {
        subtree = path;
        original = row;
        told = finite.get st.told path;
        state = st;
        steps = 0;
        verdict = verdict st [] path;
      }))
    ])

abbrev read_by : Result Names CliFault → Result State TreeFault → Result Course CliFault
read_by named tree =
    elim named [
      | Ok path ↦
          elim (elim tree as (λ _. Result State CliFault) [ Ok st ↦ Ok st | Err fault ↦ Err (lifted fault) ])
          [ Ok st ↦ course_from st (Some path) | Err fault ↦ Err fault ]
      | Err fault ↦ Err fault
    ]

-- who is read is a user
may_by : (made user : Identity) (root may : Bool) → is_user made ≡ may
    → cond root (Err Uid) (ok_or (cond may (Some made) None) Gids) ≡ Ok user → is_user user ≡ true
may_by made user true may _ is = cc
may_by made user false true may is = let same : made ≡ user = cc in subst (λ who. is_user who ≡ true) same may
may_by made user false false _ is = cc

user_may : (uid : ℕ) (gids : List ℕ) (user : Identity) → user_read uid gids ≡ Ok user → is_user user ≡ true
user_may uid gids user is =
    let made : Identity = record { uid = uid; gids = gids } in may_by made user (nat_eq uid 0) (is_user made) refl is

-- ---- a watched replay

module _ (vocabulary : Vocabulary) (tree : Reading) (uid : ℕ) (gids : List ℕ) (subtree : List ℕ) (user : Identity) (path : Names)
    (st : State) (ops : List Op)
    (of_user : user_read uid gids ≡ Ok user) (of_path : path_read subtree ≡ Ok path) (of_text : tree ≡ Ok st)
    (sub : IsSubtree st path) (lines : HaveLines vocabulary ops) where
  row : (row : Cgroup) × (row_at st path ≡ Some row)
  row = row_of (row_at st path) sub.0

  abbrev begun : Progress
  begun = record { subtree = path; original = row.0; told = finite.get st.told path; state = st; steps = 0; verdict = verdict st [] path }

  begins : course_from st (Some path) ≡ Ok (Watched begun)
  begins = λ i. course_by st path (sub.1 i) (row.1 i)

  course_is : course_read (Some subtree) tree ≡ Ok (Watched begun)
  course_is = ap (λ named. read_by named tree) of_path ∙ ap (read_by (Ok path)) of_text ∙ begins

  run : RunsOn begun user ops st []
  run = runs_on user ops begun st [] (record { original = row.1; told = refl; state = refl; steps = refl; verdict = refl })

  found : run.to.verdict ≡ verdict st (by_user user ops) path
  found = run.run_of.verdict ∙ ap (verdict st (by_user user ops)) run.subtree

  -- behind the lines stands the verdict
  pub watched : replay_report vocabulary tree uid gids (Some subtree) (op_lines ops) ≡ record {
    text = said_of (Unwatched st) user ops ++ verdict_text (verdict st (by_user user ops) path);
    ending = Ok (verdict_status (verdict st (by_user user ops) path));
  }
  watched =
      ap
      (λ u. closed (report_on u (λ user. report_on (course_read (Some subtree) tree) (λ course. lines_said vocabulary course user 0
      (op_lines ops)))))
      of_user
      ∙ ap (λ c. closed (report_on c (λ course. lines_said vocabulary course user 0 (op_lines ops)))) course_is
      ∙ ap closed (all_said vocabulary user ops (Watched begun) lines)
      ∙ ap (λ (c : Course). closed (record { text = said_of (Watched begun) user ops; ending = Ok c })) run.course
      ∙ (λ i. record {
        text = said_unwatched user ops begun i ++ verdict_text (found i);
        ending = Ok (verdict_status (found i));
      })

-- ---- the whole

module _ (text : List ℕ) (tree : Reading) (is_read : IsReading text tree) (uid : ℕ) (gids : List ℕ) (subtree : List ℕ)
    (user : Identity) (path : Names) (st : State) (ops : List Op) (of_user : user_read uid gids ≡ Ok user)
    (of_path : path_read subtree ≡ Ok path) (of_text : tree ≡ Ok st)
    (is : checked st user path ≡ Ok (Escapes ops)) where
  stated : (first (subtree_faults st path) ≡ None) × (answer st user path ≡ Escapes ops)
  stated = unfaulted (first (subtree_faults st path)) (answer st user path) (Escapes ops) is

  sub : IsSubtree st path
  sub = sub_of (is_root path) (has_row st path) stated.0

  says : IsTextOf st text
  says = subst (IsReading text) of_text is_read

  lines : HaveLines (vocabulary_in text) ops
  lines =
      escape_lines (vocabulary_in text) st user path says.says.formed
      (record { paths = λ named. paths_are_paths text st named says; pids = λ pid. pids_are_pids text st pid says })
      (text_worded text st says user (user_may uid gids user of_user)) sub ops stated.1

  printed : (check_report tree uid gids subtree).text ≡ codes "escapes\n" ++ op_lines ops
  printed =
      ap (λ (r : Report). r.text) (report_is tree uid gids subtree user path st of_user of_path of_text)
      ∙ ap (λ found. (report_on (in_call found) (answer_report path)).text) is

  broken : (steps : ℕ) × (clause : Clause) × (verdict st (by_user user ops) path ≡ Broken steps clause)
  broken = broken_of (verdict st (by_user user ops) path) (λ kept. escape-broken st user path ops stated.1 kept)

  replayed : EndsBroken (replay_report (vocabulary_in text) tree uid gids (Some subtree) (op_lines ops))
  replayed =
      let report = watched (vocabulary_in text) tree uid gids subtree user path st ops of_user of_path of_text sub lines in record {
        front = said_of (Unwatched st) user ops;
        before = are_lines user ops (Unwatched st);
        steps = broken.0;
        clause = broken.1;
        text = ap (λ (r : Report). r.text) report ∙ ap (λ v. said_of (Unwatched st) user ops ++ verdict_text v) broken.2;
        ending = ap (λ (r : Report). r.ending) report ∙ ap (λ v. Ok (verdict_status v)) broken.2;
      }

  pub replays_broken : IsReplayed (vocabulary_in text) tree uid gids subtree ops
  replays_broken = record {
    printed = printed;
    lines = lines;
    answered = of_bytes tree uid gids subtree user path st of_user of_path of_text (λ s u p. answer s u p ≡ Escapes ops) stated.1;
    replayed = replayed;
  }

pub escapes_replayed : (text : List ℕ) (tree : Reading) (uid : ℕ) (gids : List ℕ) (subtree : List ℕ) → IsReading text tree
    → (check_report tree uid gids subtree).ending ≡ Ok 1 → (ops : List Op) × IsReplayed (vocabulary_in text) tree uid gids subtree ops
escapes_replayed text tree uid gids subtree is_read is =
    let user =
    report_ok (user_read uid gids)
    (λ user. report_on (path_read subtree) (λ path. report_on (tree_read tree) (λ st. subtree_report st user path))) 1 is in
    let path = report_ok (path_read subtree) (λ path. report_on (tree_read tree) (λ st. subtree_report st user.0 path)) 1 user.2 in
    let state = report_ok (tree_read tree) (λ st. subtree_report st user.0 path.0) 1 path.2 in
    let one = report_ok (in_call (checked state.0 user.0 path.0)) (answer_report path.0) 1 state.2 in
    let status : answer_status one.0 ≡ 1 = status_is (answer_status one.0) 1 one.2 in
    let ops = escapes_of one.0 status in (
      ops.0,
      replays_broken text tree is_read uid gids subtree user.0 path.0 state.0 ops.0 user.1 path.1 (tree_ok tree state.0 state.1)
          (found_is (checked state.0 user.0 path.0) one.0 one.1 ∙ ap Ok ops.1),
    )
