-- The report on one migration. Own.
use Rattle.std.specs.Prelude.{ℕ, List, codes, Option, Some, None, Result, Ok, Err}
use Rattle.cg_cgroup.specs.Paths.{Names}
use Rattle.cg_cgroup.specs.Identity.{Identity}
use Rattle.cg_model.specs.States.{State}
use Rattle.cg_model.specs.Clauses.{first}
use Rattle.cg_model.specs.Bars.{bars}
use Rattle.cg_model.specs.declared.operation.Op.{Op}
use Rattle.cg_model.specs.declared.operation.Op.TheVariants.{Move}
use Rattle.cg_model.specs.declared.outcome.Refusal.{Refusal}
use Rattle.cg_model.specs.declared.outcome.Outcome.TheVariants.{Refused}
use Rattle.cg_lines.specs.Outcomes.{outcome_text}
use Rattle.cg_format.specs.Readings.{Reading}
use Rattle.cg_faults.specs.Faults.{lifted}
use Rattle.cg_cli.specs.Arguments.{user_read, pid_read, path_read}
use Rattle.cg_cli.specs.Reports.{Report, report_on}
use Rattle.cg_faults.specs.declared.fault.CliFault.{CliFault}

-- what is written of an operation that may be barred, and the status: 0 where nothing bars it, else 1
abbrev pub permission : Op → Option Refusal → List ℕ × ℕ
permission op None = (codes "granted\n", 0)
permission op (Some bar) = (outcome_text op (Refused bar), 1)

-- Delegation Containment: granted exactly where nothing bars the move, else refused for the first bar.
abbrev pub move_report : State → Identity → ℕ → Names → Report
move_report st user pid to =
    let said : List ℕ × ℕ = permission (Move pid to) (first (bars st user (Move pid to))) in
    record { text = said.0; ending = Ok said.1 }

-- what a text is read as, with its fault as that of a call
abbrev pub tree_read : Reading → Result State CliFault
tree_read tree = elim tree [ Ok st ↦ Ok st | Err fault ↦ Err (lifted fault) ]

-- The arguments are looked at in the order of uid, gids, PID and path, and then the tree's text.
abbrev pub may_report : Reading → ℕ → List ℕ → ℕ → List ℕ → Report
may_report tree uid gids pid to =
    report_on (user_read uid gids) (λ user.
    report_on (pid_read pid) (λ number.
    report_on (path_read to) (λ path.
    report_on (tree_read tree) (λ st. move_report st user number path))))
