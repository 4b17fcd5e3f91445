-- What may be listed of several users and several subtrees where more is known than check tells. Own.
use Rattle.std.specs.Prelude.{◌≡◌, ◌≢◌, ℕ, suc, ◌<◌, Bool, cond, List, [], ◌∷◌, ◌++◌, length, get_or, Option, Some, None, Result, Ok, Err, codes}
use Rattle.std.specs.List.{flat_map}
use Rattle.cg_cgroup.specs.Paths.{Names, same_path}
use Rattle.cg_cgroup.specs.Identity.{Identity}
use Rattle.cg_model.specs.States.{State}
use Rattle.cg_model.specs.Clauses.{first}
use Rattle.cg_model.specs.Once.{once}
use Rattle.cg_model.specs.Answers.{answer}
use Rattle.cg_model.specs.Checks.{subtree_faults}
use Rattle.cg_model.specs.Listed.{Listed, listed_unless_contained, is_contained}
use Rattle.cg_model.specs.declared.answer.Answer.{Answer}
use Rattle.cg_model.specs.declared.fault.CheckFault.{CheckFault}
use Rattle.cg_report.specs.AnswerLines.{answer_text}
use Rattle.cg_report.specs.AuditLines.{pair_line}
use Rattle.cg_format.specs.Readings.{Reading}
use Rattle.cg_cli.specs.Audits.{users_read, paths_read}
use Rattle.cg_cli.specs.Containment.{answer_status}
use Rattle.cg_cli.specs.FurtherAdvice.{AreHeld}
use Rattle.cg_cli.specs.May.{tree_read}
use Rattle.cg_cli.specs.Once.{same_user}
use Rattle.cg_cli.specs.Reports.{Report, Reports, report_on}
use Rattle.cg_cli.specs.Settling.{IsFurther}
use Rattle.cg_faults.specs.Faults.{lifted_check}
use Rattle.cg_faults.specs.declared.fault.CliFault.{CliFault}

-- those of a list, from a place on, whose places pass a test
abbrev pub picked : {A : Type 0} → (ℕ → Bool) → ℕ → List A → List A
picked test place [] = []
picked test place (x ∷ xs) = cond (test place) (x ∷ picked test (suc place) xs) (picked test (suc place) xs)

-- the users with whom the subtree isn't listed, by what is found of them at their places
abbrev pub not_listed : (ℕ → Answer) → List Identity → List Identity
not_listed found users = picked (λ place. is_contained (found place)) 0 users

-- the pairs of one user that are listed, from a place of the subtrees on
abbrev pub listed_with : (ℕ → Answer) → Identity → ℕ → List Names → List Listed
listed_with found user place [] = []
listed_with found user place (subtree ∷ subtrees) =
    listed_unless_contained user subtree (found place) ++ listed_with found user (suc place) subtrees

-- those of the users from a place on, by user and then subtree
abbrev pub listed_from : (ℕ → ℕ → Answer) → ℕ → List Identity → List Names → List Listed
listed_from found place [] subtrees = []
listed_from found place (user ∷ users) subtrees =
    listed_with (found place) user 0 subtrees ++ listed_from found (suc place) users subtrees

-- What is found of each user with each subtree, by their places, is what may be answered of these two; and each subtree is held
-- against those with whom it isn't listed, all of them together, where there are such.
pub record AreFurther (st : State) (users : List Identity) (subtrees : List Names) (found : ℕ → ℕ → Answer) : Type 0 where
  pub each : (user place : ℕ) (d : Identity) (e : Names) → user < length users → place < length subtrees
      → IsFurther st (get_or users user d) (get_or subtrees place e) (answer st (get_or users user d) (get_or subtrees place e))
      (found user place)
  pub together : (place : ℕ) (e : Names) → place < length subtrees → not_listed (λ user. found user place) users ≢ []
      → AreHeld st (not_listed (λ user. found user place) users) (get_or subtrees place e ∷ [])

-- The first fault of the subtrees, in the order of their list, or pairs that may be listed.
abbrev pub MayList : State → List Identity → List Names → Option CheckFault → Result (List Listed) CliFault → Type 0
MayList st users subtrees None report =
    (found : ℕ → ℕ → Answer) × AreFurther st users subtrees found × (report ≡ Ok (listed_from found 0 users subtrees))
MayList st users subtrees (Some fault) report = report ≡ Err (lifted_check fault)

-- what may be listed of what was read, or the fault that it met
abbrev pub ListsOn : {A : Type 0} → Result A CliFault → (A → Result (List Listed) CliFault → Type 0) → Result (List Listed) CliFault → Type 0
ListsOn (Ok x) lists report = lists x report
ListsOn (Err fault) lists report = report ≡ Err fault

-- Users, then paths, and then the tree are read, as for an audit. Who and what is named again counts once.
abbrev pub ListsFurther : Reading → List (ℕ × List ℕ) → List (List ℕ) → Result (List Listed) CliFault → Type 0
ListsFurther tree given texts =
    ListsOn (users_read given) (λ users.
    ListsOn (paths_read texts) (λ subtrees.
    ListsOn (tree_read tree) (λ st.
    MayList st (once same_user users) (once same_path subtrees) (first (flat_map (subtree_faults st) (once same_path subtrees))))))

-- ---- what is said of the pairs

-- The first alone: its line names the uid alone.
abbrev pub first_pair_text : List Listed → List ℕ
first_pair_text [] = codes "contained\n"
first_pair_text (pair ∷ pairs) = pair_line pair.user.uid pair.subtree ++ answer_text pair.subtree pair.found

abbrev pub first_pair_status : List Listed → ℕ
first_pair_status [] = 0
first_pair_status (pair ∷ pairs) = answer_status pair.found

abbrev pub first_pair_report : List Listed → Report
first_pair_report pairs = record { text = first_pair_text pairs; ending = Ok (first_pair_status pairs) }

-- by how that is said
abbrev pub ReportsFirstBy : (List Listed → Report) → Result (List Listed) CliFault → Option (List ℕ) → Option (List ℕ)
    → Result ℕ CliFault → Type 0
ReportsFirstBy said pairs old new result = Reports (report_on pairs said) old new result

abbrev pub ReportsFirst : Result (List Listed) CliFault → Option (List ℕ) → Option (List ℕ) → Result ℕ CliFault → Type 0
ReportsFirst pairs old new result = ReportsFirstBy first_pair_report pairs old new result

-- What a call answers, and has written by then, by what it says of pairs that may be listed.
abbrev pub ReportsFurther : (Result (List Listed) CliFault → Option (List ℕ) → Option (List ℕ) → Result ℕ CliFault → Type 0) → Reading → List (ℕ × List ℕ) → List (List ℕ) → Option (List ℕ) → Option (List ℕ) → Result ℕ CliFault → Type 0
ReportsFurther says tree given texts old new result =
    (report : Result (List Listed) CliFault) × ListsFurther tree given texts report × says report old new result
