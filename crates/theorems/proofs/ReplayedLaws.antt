-- What a replay of the lines of operations says, by the operations.
use Rattle.std.proofs.Common.{◌≡◌, ℕ, ◌+◌, ◌<◌, ◌≤◌, true, false, nat_lt, List, [], ◌∷◌, ◌++◌, All, length, Some, None, Result, Ok, Err, refl, ap, sym, ◌∙◌, append_assoc, append-nil, length-append, arith}
use Rattle.std.specs.List.{AllByRecursion}
use Rattle.std.proofs.lemmas.Bool.{lt-ltb, le-ltb}
use Rattle.cg_cgroup.specs.Paths.{Names}
use Rattle.cg_cgroup.specs.Identity.{Identity}
use Rattle.cg_model.specs.States.{State}
use Rattle.cg_model.specs.Steps.{after, after_all}
use Rattle.cg_model.specs.Held.{IsHeld, by_user}
use Rattle.cg_model.specs.Verdicts.{verdict}
use Rattle.cg_model.specs.Guards.{IsSubtree}
use Rattle.cg_model.specs.declared.operation.Op.{Op}
use Rattle.cg_model.specs.declared.verdict.Verdict.{Verdict}
use Rattle.cg_model.specs.declared.verdict.Verdict.TheVariants.{Kept, Broken}
use Rattle.cg_lines.specs.LineReading.{operation_at}
use Rattle.cg_lines.specs.Outcomes.{outcome_text}
use Rattle.cg_lines.specs.declared.lines.fault.LineFault.TheVariants.{BadWord}
use Rattle.cg_report.specs.AnswerLines.{op_lines}
use Rattle.cg_report.specs.VerdictLines.{verdict_text}
use Rattle.cg_cli.specs.Reports.{Report, report_on}
use Rattle.cg_cli.specs.Arguments.{user_read, path_read}
use Rattle.cg_cli.specs.Courses.{Course, Unwatched, state_of, on_course, verdict_status}
use Rattle.cg_cli.specs.Replays.{is_newline, longest_line, outcome_of, operation_read, with_front, lines_said, closed, course_read, replay_report}
use Rattle.cg_faults.specs.declared.fault.CliFault.{CliFault}
use Rattle.cg_faults.specs.declared.fault.CliFault.TheVariants.{Line}
use Rattle.cg_cli.proofs.ReplayReports.{report_of_line}
use Rattle.cg_lines.specs.OperationLines.{HasLine, HaveLines}
use Rattle.cg_escapes.proofs.EscapeReplays.{on_all, said_of, said_before, all_said, watched}
use Rattle.cg_cgroup.specs.declared.files.Vocabulary.{Vocabulary}

-- where operations lead from a tree is one
on_all_unwatched : (user : Identity) (ops : List Op) (st : State)
    → on_all (Unwatched st) user ops ≡ Unwatched (after_all st (by_user user ops))
on_all_unwatched user [] st = refl
on_all_unwatched user (op ∷ ops) st = on_all_unwatched user ops (after st user op)

said_one_more : (user : Identity) (ops : List Op) (op : Op) (st : State)
    → said_of (Unwatched st) user (ops ++ op ∷ [])
    ≡ said_of (Unwatched st) user ops ++ outcome_text op (outcome_of (after_all st (by_user user ops)) user op)
said_one_more user [] op st = append-nil (outcome_text op (outcome_of st user op))
said_one_more user (x ∷ ops) op st =
    let said = outcome_text x (outcome_of st user x) in
    ap (λ rest. said ++ rest) (said_one_more user ops op (after st user x))
    ∙ sym (append_assoc said (said_of (Unwatched (after st user x)) user ops) _)

front_lines : (vocabulary : Vocabulary) (ops : List Op) (op : Op) → AllByRecursion (HasLine vocabulary) (ops ++ op ∷ [])
    → AllByRecursion (HasLine vocabulary) ops
front_lines vocabulary [] op all = tt
front_lines vocabulary (x ∷ ops) op all = (all.0, front_lines vocabulary ops op all.1)

module _ (vocabulary : Vocabulary) (st : State) (uid : ℕ) (gids : List ℕ) (user : Identity) (of_user : user_read uid gids ≡ Ok user) where
  of_words : (bytes : List ℕ) → replay_report vocabulary (Ok st) uid gids None bytes
      ≡ closed (lines_said vocabulary (Unwatched st) user 0 bytes)
  of_words bytes =
      ap (λ u. closed (report_on u (λ user. report_on (course_read None (Ok st))
      (λ course. lines_said vocabulary course user 0 bytes)))) of_user

  all_are : (ops : List Op) → HaveLines vocabulary ops
      → replay_report vocabulary (Ok st) uid gids None (op_lines ops) ≡ record { text = said_of (Unwatched st) user ops; ending = Ok 0 }
  all_are ops lines =
      of_words (op_lines ops) ∙ ap closed (all_said vocabulary user ops (Unwatched st) lines)
      ∙ ap (λ (c : Course). closed (record { text = said_of (Unwatched st) user ops; ending = Ok c })) (on_all_unwatched user ops st)
      ∙ ap (λ text. record { text = text; ending = Ok 0 }) (append-nil (said_of (Unwatched st) user ops))

  text_is : (ops : List Op) → HaveLines vocabulary ops → (replay_report vocabulary (Ok st) uid gids None (op_lines ops)).text
      ≡ said_of (Unwatched st) user ops
  text_is ops lines = ap (λ (r : Report). r.text) (all_are ops lines)

  pub replay_none : replay_report vocabulary (Ok st) uid gids None [] ≡ record { text = []; ending = Ok 0 }
  replay_none = all_are [] (tt, omega arith)

  pub replay_one_more : (ops : List Op) (op : Op) → HaveLines vocabulary (ops ++ op ∷ [])
      → replay_report vocabulary (Ok st) uid gids None (op_lines (ops ++ op ∷ [])) ≡ record {
        text =
            (replay_report vocabulary (Ok st) uid gids None (op_lines ops)).text
            ++ outcome_text op (outcome_of (after_all st (by_user user ops)) user op);
        ending = Ok 0;
      }
  replay_one_more ops op lines =
      let front : HaveLines vocabulary ops = (front_lines vocabulary ops op lines.0, omega (arith, lines.1, length-append ops (op ∷ []))) in
      all_are (ops ++ op ∷ []) lines
      ∙ ap (λ text. record { text = text; ending = Ok 0 })
      (said_one_more user ops op st
      ∙ ap (λ text. text ++ outcome_text op (outcome_of (after_all st (by_user user ops)) user op)) (sym (text_is ops front)))

  no_operation : (done : ℕ) (line : List ℕ) → done < 65536 → length line ≤ 8192 → operation_at vocabulary line ≡ None
      → operation_read vocabulary done line ≡ Err (Line (done + 1) BadWord)
  no_operation done line few short bad =
      let a : nat_lt done 65536 ≡ true = lt-ltb done 65536 few in
      let b : nat_lt 8192 (length line) ≡ false = le-ltb 8192 (length line) short in
      rw (a, b, bad) refl

  pub replay_fault : (ops : List Op) (line rest : List ℕ) → HaveLines vocabulary ops → All (λ b. is_newline b ≡ false) line
      → length line ≤ longest_line → operation_at vocabulary line ≡ None
      → replay_report vocabulary (Ok st) uid gids None (op_lines ops ++ line ++ 10 ∷ rest) ≡ record {
        text = (replay_report vocabulary (Ok st) uid gids None (op_lines ops)).text;
        ending = Err (Line (length ops + 1) BadWord);
      }
  replay_fault ops line rest lines one short bad =
      let said = said_of (Unwatched st) user ops in
      let count : 0 + length ops ≡ length ops = omega arith in
      of_words (op_lines ops ++ line ++ 10 ∷ rest)
      ∙ ap closed (ap (lines_said vocabulary (Unwatched st) user 0) (append_assoc (op_lines ops) line (10 ∷ rest))
      ∙ said_before vocabulary user ops (Unwatched st) 0 (line ++ 10 ∷ rest) lines.0 (omega (arith, lines.1))
      ∙ ap (with_front said) (report_of_line vocabulary (on_all (Unwatched st) user ops) user (0 + length ops) line rest one
      ∙ ap (λ read. report_on read (λ op. with_front (outcome_text op (outcome_of (state_of (on_all (Unwatched st) user ops)) user op))
      (lines_said vocabulary (on_course (on_all (Unwatched st) user ops) user op) user (0 + length ops + 1) rest)))
      (no_operation (0 + length ops) line (omega (arith, lines.1)) short bad)))
      ∙ (λ i. record { text = (append-nil said ∙ sym (text_is ops lines)) i; ending = Err (Line (count i + 1) BadWord) })

  pub replay_watched : (word : List ℕ) (subtree : Names) (ops : List Op) → path_read word ≡ Ok subtree → IsSubtree st subtree
      → HaveLines vocabulary ops → replay_report vocabulary (Ok st) uid gids (Some word) (op_lines ops) ≡ record {
        text = (replay_report vocabulary (Ok st) uid gids None (op_lines ops)).text ++ verdict_text (verdict st (by_user user ops) subtree);
        ending = Ok (verdict_status (verdict st (by_user user ops) subtree));
      }
  replay_watched word subtree ops of_path sub lines =
      watched vocabulary (Ok st) uid gids word user subtree st ops of_user of_path refl sub lines
      ∙ ap (λ text. record {
        text = text ++ verdict_text (verdict st (by_user user ops) subtree);
        ending = Ok (verdict_status (verdict st (by_user user ops) subtree));
      }) (sym (text_is ops lines))

  -- a status of 0 says that the watched subtree was held
  pub replay_held : (word : List ℕ) (subtree : Names) (ops : List Op) → path_read word ≡ Ok subtree → IsSubtree st subtree
      → HaveLines vocabulary ops → (replay_report vocabulary (Ok st) uid gids (Some word) (op_lines ops)).ending ≡ Ok 0
      → IsHeld st (by_user user ops) subtree
  replay_held word subtree ops of_path sub lines is =
      by_verdict (verdict st (by_user user ops) subtree)
      (ap (λ (r : Report). r.ending) (sym (replay_watched word subtree ops of_path sub lines)) ∙ is)
    where
      by_verdict : (found : Verdict) → ◌≡◌ {A = Result ℕ CliFault} (Ok (verdict_status found)) (Ok 0) → found ≡ Kept
      by_verdict Kept is = refl
      by_verdict (Broken steps clause) is = let never : ⊥ = cc in absurd never
