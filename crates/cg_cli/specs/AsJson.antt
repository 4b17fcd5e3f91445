-- The reports of calls as JSON: those of lines, but for their text. Own.
use Rattle.std.specs.Prelude.{◌≡◌, ◌≢◌, ℕ, cond, List, [], map, Option, Some, None, Result, Ok}
use Rattle.std.specs.List.{flat_map}
use Rattle.cg_cgroup.specs.Paths.{Names, same_path}
use Rattle.cg_cgroup.specs.Identity.{Identity}
use Rattle.cg_model.specs.States.{State}
use Rattle.cg_model.specs.Bars.{bars}
use Rattle.cg_model.specs.Clauses.{first}
use Rattle.cg_model.specs.Checks.{subtree_faults, unless_fault, checked, all_checked}
use Rattle.cg_model.specs.Mends.{Pair}
use Rattle.cg_model.specs.Once.{once}
use Rattle.cg_model.specs.Several.{AreContained}
use Rattle.cg_model.specs.declared.answer.Answer.{Answer}
use Rattle.cg_model.specs.declared.answer.AllAnswer.{AllAnswer}
use Rattle.cg_model.specs.declared.fault.CheckFault.{CheckFault}
use Rattle.cg_model.specs.declared.operation.Op.{Op}
use Rattle.cg_model.specs.declared.operation.Op.TheVariants.{Move}
use Rattle.cg_model.specs.declared.outcome.Refusal.{Refusal}
use Rattle.cg_advice.specs.Found.{Let, Raised, advice_parts}
use Rattle.cg_format.specs.Readings.{Reading}
use Rattle.cg_json.specs.Lines.{json_line}
use Rattle.cg_json.specs.Answers.{answer_value}
use Rattle.cg_json.specs.Audits.{audit_value}
use Rattle.cg_json.specs.Advice.{advice_value}
use Rattle.cg_json.specs.Outcomes.{permission_value}
use Rattle.cg_cli.specs.Advising.{all_pairs, paired, named_report, AreContainedAsNamed}
use Rattle.cg_cli.specs.Arguments.{user_read, pid_read, path_read}
use Rattle.cg_cli.specs.Audits.{audit_status}
use Rattle.cg_cli.specs.Containment.{in_call, answer_status, asked_report}
use Rattle.cg_cli.specs.Explaining.{ReportsToldBy}
use Rattle.cg_cli.specs.Formats.{told_in}
use Rattle.cg_cli.specs.May.{permission, tree_read}
use Rattle.cg_cli.specs.Once.{same_user}
use Rattle.cg_cli.specs.Reports.{Report, Reports, report_on}
use Rattle.cg_cli.specs.SettledAdvice.{are_held}
use Rattle.cg_cli.specs.Settling.{SaysOn}
use Rattle.cg_cli.specs.declared.format.Format.TheVariants.{Json}
use Rattle.cg_faults.specs.declared.fault.CliFault.{CliFault}

-- ---- one user and one subtree

abbrev pub answer_json_report : Names → Answer → Report
answer_json_report subtree found = record { text = json_line (answer_value subtree found); ending = Ok (answer_status found) }

-- The fault of the subtree, or the answer.
abbrev pub subtree_json_report : State → Identity → Names → Report
subtree_json_report st user subtree = report_on (in_call (checked st user subtree)) (answer_json_report subtree)

abbrev pub check_json_report : Reading → ℕ → List ℕ → List ℕ → Report
check_json_report tree uid gids subtree = asked_report subtree_json_report tree uid gids subtree

-- The fault of the subtree, or an answer that follows from what check answers.
abbrev pub FurtherSaysAsJson : (State → Identity → Names → Answer → Answer → Type 0) → State → Identity → Names → Report → Type 0
FurtherSaysAsJson follows st user subtree =
    SaysOn (in_call (checked st user subtree))
    (λ given said. (found : Answer) × follows st user subtree given found × (said ≡ answer_json_report subtree found))

-- ---- several

abbrev pub audit_json_answer : List Identity → List Names → AllAnswer → Report
audit_json_answer users subtrees found = record { text = json_line (audit_value users subtrees found); ending = Ok (audit_status found) }

-- The first fault of the subtrees, in the order of their list, or the answer for all pairs.
abbrev pub pairs_json_report : State → List Identity → List Names → Report
pairs_json_report st users subtrees = report_on (in_call (all_checked st users subtrees)) (audit_json_answer users subtrees)

-- That is written, and status 0 means that all are contained against all.
abbrev pub AuditsAsJson : State → List Identity → List Names → Option (List ℕ) → Option (List ℕ) → Result ℕ CliFault → Type 0
AuditsAsJson st users subtrees old new result =
    Reports (pairs_json_report st users subtrees) old new result × (result ≡ Ok 0 → users ≢ [] → AreContained st users subtrees)

-- Who and what is named again counts once.
abbrev pub audit_json_report : Reading → List (ℕ × List ℕ) → List (List ℕ) → Report
audit_json_report tree given texts =
    named_report (λ st users subtrees. pairs_json_report st (once same_user users) (once same_path subtrees)) tree given texts

-- ---- advice

-- 1 where there is something to be changed
abbrev pub parts_status : Option (List Let × List Raised) → ℕ
parts_status None = 0
parts_status (Some parts) = 1

abbrev pub parts_report : Option (List Let × List Raised) → Report
parts_report parts = record { text = json_line (advice_value parts); ending = Ok (parts_status parts) }

abbrev pub parts_asked : State → List Names → List Pair → Result (Option (List Let × List Raised)) CheckFault
parts_asked st subtrees pairs = unless_fault (first (flat_map (subtree_faults st) subtrees)) (advice_parts st pairs)

-- The first fault of the subtrees, in the order of their list, or the advice for pairs.
abbrev pub advice_json_report : State → List Names → List Pair → Report
advice_json_report st subtrees pairs = report_on (in_call (parts_asked st subtrees pairs)) parts_report

-- That of every user with every subtree is written, and status 0 means that all are contained against all.
abbrev pub AdvisesAsJson : State → List Identity → List Names → Option (List ℕ) → Option (List ℕ) → Result ℕ CliFault → Type 0
AdvisesAsJson st users subtrees old new result =
    Reports (advice_json_report st subtrees (all_pairs users subtrees)) old new result
    × (result ≡ Ok 0 → users ≢ [] → AreContained st users subtrees)

-- Who and what is named again counts once.
abbrev pub advise_json_report : Reading → List (ℕ × List ℕ) → List (List ℕ) → Report
advise_json_report tree given texts =
    named_report (λ st users subtrees.
    advice_json_report st (once same_path subtrees) (all_pairs (once same_user users) (once same_path subtrees))) tree given texts

-- That of users and subtrees at the same place is written, and status 0 means that each is contained as it is named.
abbrev pub AdvisesNamedAsJson : State → List Identity → List Names → Option (List ℕ) → Option (List ℕ) → Result ℕ CliFault → Type 0
AdvisesNamedAsJson st users subtrees old new result =
    Reports (advice_json_report st subtrees (paired users subtrees)) old new result
    × (result ≡ Ok 0 → AreContainedAsNamed st (paired users subtrees))

abbrev pub advise_pairs_json_report : Reading → List ((ℕ × List ℕ) × List ℕ) → Report
advise_pairs_json_report tree given =
    named_report (λ st users subtrees. advice_json_report st subtrees (paired users subtrees)) tree
    (map (λ pair. pair.0) given) (map (λ pair. pair.1) given)

-- nothing is to be changed where the second row of each subtree holds for all users together
abbrev pub settled_parts : State → List Identity → List Names → Option (List Let × List Raised)
settled_parts st users subtrees = cond (are_held st users subtrees) None (advice_parts st (all_pairs users subtrees))

abbrev pub settled_asked : State → List Identity → List Names → Result (Option (List Let × List Raised)) CheckFault
settled_asked st users subtrees = unless_fault (first (flat_map (subtree_faults st) subtrees)) (settled_parts st users subtrees)

abbrev pub settled_json_report : State → List Identity → List Names → Report
settled_json_report st users subtrees = report_on (in_call (settled_asked st users subtrees)) parts_report

-- Who and what is named again counts once.
abbrev pub advise_settled_json_report : Reading → List (ℕ × List ℕ) → List (List ℕ) → Report
advise_settled_json_report tree given texts =
    named_report (λ st users subtrees. settled_json_report st (once same_user users) (once same_path subtrees)) tree given texts

-- ---- one move

-- what is written of an operation that may be barred, and the status
abbrev pub permission_as_json : Op → Option Refusal → List ℕ × ℕ
permission_as_json op bar = (json_line (permission_value op bar), (permission op bar).1)

-- granted exactly where nothing bars the move, else refused for the first bar
abbrev pub move_json_report : State → Identity → ℕ → Names → Report
move_json_report st user pid to =
    let said : List ℕ × ℕ = permission_as_json (Move pid to) (first (bars st user (Move pid to))) in
    record { text = said.0; ending = Ok said.1 }

-- The arguments are looked at in the order of uid, gids, PID and path, and then the tree's text.
abbrev pub may_json_report : Reading → ℕ → List ℕ → ℕ → List ℕ → Report
may_json_report tree uid gids pid to =
    report_on (user_read uid gids) (λ user.
    report_on (pid_read pid) (λ number.
    report_on (path_read to) (λ path.
    report_on (tree_read tree) (λ st. move_json_report st user number path))))

-- ---- what is told of pairs

-- an object on a line for each
abbrev pub ExplainedAsJson : Result (State × List Pair) CliFault → Option (List ℕ) → Option (List ℕ) → Result ℕ CliFault → Type 0
ExplainedAsJson asked old new result = ReportsToldBy (told_in Json) asked old new result
