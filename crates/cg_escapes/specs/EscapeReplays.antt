-- What a printed escape comes to where its lines are replayed. Own.
use Rattle.std.specs.Prelude.{◌≡◌, ◌⊎◌, ℕ, List, [], ◌∷◌, ◌++◌, codes, Some, Ok}
use Rattle.cg_cgroup.specs.Paths.{Names, path_at}
use Rattle.cg_cgroup.specs.Identity.{Identity}
use Rattle.cg_cgroup.specs.Users.{user_of}
use Rattle.cg_model.specs.States.{State}
use Rattle.cg_model.specs.declared.operation.Op.{Op}
use Rattle.cg_model.specs.declared.verdict.Clause.{Clause}
use Rattle.cg_model.specs.declared.verdict.Verdict.TheVariants.{Broken}
use Rattle.cg_model.specs.Answers.{answer}
use Rattle.cg_model.specs.declared.answer.Answer.TheVariants.{Escapes}
use Rattle.cg_lines.specs.OperationLines.{HaveLines}
use Rattle.cg_report.specs.AnswerLines.{op_lines}
use Rattle.cg_report.specs.VerdictLines.{verdict_text}
use Rattle.cg_format.specs.Readings.{Reading}
use Rattle.cg_cli.specs.Reports.{Report}
use Rattle.cg_cli.specs.Containment.{check_report}
use Rattle.cg_cli.specs.Replays.{replay_report}
use Rattle.cg_cgroup.specs.declared.files.Vocabulary.{Vocabulary}

-- no lines, or lines of which the last ends with its newline
abbrev pub AreLines : List ℕ → Type 0
AreLines text = (text ≡ []) ⊎ ((others : List ℕ) × (text ≡ others ++ 10 ∷ []))

-- Behind lines stands that of a broken verdict, and the status is 1.
pub record EndsBroken (report : Report) : Type 0 where
  pub front : List ℕ
  pub before : AreLines front
  pub steps : ℕ
  pub clause : Clause
  pub text : report.text ≡ front ++ verdict_text (Broken steps clause)
  pub ending : report.ending ≡ Ok 1

-- A check of what a text is read as, for a user and a subtree, prints the line `escapes` and the lines of these operations, each of
-- 8192 bytes at most and fewer than 65536 of them, and each of controllers that the text names. They are its answer, and a replay of the printed lines breaks the subtree.
pub record IsReplayed (vocabulary : Vocabulary) (tree : Reading) (uid : ℕ) (gids : List ℕ) (subtree : List ℕ) (ops : List Op) : Type 0 where
  pub printed : (check_report tree uid gids subtree).text ≡ codes "escapes\n" ++ op_lines ops
  pub lines : HaveLines vocabulary ops
  pub answered : (st : State) (user : Identity) (path : Names) → tree ≡ Ok st → user_of uid gids ≡ Some user → path_at subtree ≡ Some path → answer st user path ≡ Escapes ops
  pub replayed : EndsBroken (replay_report vocabulary tree uid gids (Some subtree) (op_lines ops))
