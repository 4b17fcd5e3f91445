-- The report on subtrees and everybody but root, whoever there is. Own.
use Rattle.std.specs.Prelude.{ℕ, Bool, true, false, List, [], ◌∷◌, ◌++◌, Option, Result, Ok}
use Rattle.std.specs.List.{flat_map}
use Rattle.cg_cgroup.specs.Identity.{Identity}
use Rattle.cg_cgroup.specs.Paths.{Names, same_path}
use Rattle.cg_model.specs.Checks.{subtree_faults, unless_fault}
use Rattle.cg_model.specs.Clauses.{first}
use Rattle.cg_model.specs.Once.{once}
use Rattle.cg_model.specs.States.{State}
use Rattle.cg_model.specs.declared.fault.CheckFault.{CheckFault}
use Rattle.machine_everybody.specs.Everybody.{Everybody}
use Rattle.cg_everybody.specs.Advice.{everybody_advice}
use Rattle.cg_everybody.specs.Everybody.{everybody_lines}
use Rattle.cg_everybody.specs.Explained.{everybody_explained}
use Rattle.cg_everybody.specs.Objects.{audited_value, advised_value, explained_value}
use Rattle.cg_everybody.specs.Premises.{premise_lines}
use Rattle.cg_format.specs.Readings.{Reading}
use Rattle.cg_json.specs.Lines.{json_line}
use Rattle.serde_json.specs.Data.{Data}
use Rattle.cg_cli.specs.Advising.{contained_line}
use Rattle.cg_cli.specs.Audits.{paths_read}
use Rattle.cg_cli.specs.Containment.{in_call}
use Rattle.cg_cli.specs.May.{tree_read}
use Rattle.cg_cli.specs.Reports.{Report, Reports, report_on}
use Rattle.cg_cli.specs.declared.everybody.Wanted.{Wanted}
use Rattle.cg_cli.specs.declared.everybody.Wanted.TheVariants.{Audit, Advise, Explain}
use Rattle.cg_cli.specs.declared.format.Format.{Format}
use Rattle.cg_cli.specs.declared.format.Format.TheVariants.{Lines, Json}
use Rattle.cg_faults.specs.declared.fault.CliFault.{CliFault}

-- 0 where nothing is found that lets somebody break one
abbrev pub found_status : List ℕ → ℕ
found_status [] = 0
found_status (byte ∷ bytes) = 1

-- `contained` where nothing is found, else these
abbrev pub or_contained : List ℕ → List ℕ → List ℕ
or_contained [] lines = contained_line
or_contained (byte ∷ bytes) lines = lines

-- what is wanted, by what is found
abbrev pub wanted_lines : Wanted → Everybody → State → List Names → List ℕ → List ℕ
wanted_lines Audit asked st subtrees found = or_contained found found
wanted_lines Advise asked st subtrees found = or_contained found (everybody_advice st asked subtrees)
wanted_lines Explain asked st subtrees found = everybody_explained st asked subtrees

-- whether something is found that lets somebody break one
abbrev pub is_found : List ℕ → Bool
is_found [] = false
is_found (byte ∷ bytes) = true

abbrev pub wanted_value : Wanted → Everybody → State → List Names → List ℕ → Data
wanted_value Audit asked st subtrees found = audited_value st asked subtrees (is_found found)
wanted_value Advise asked st subtrees found = advised_value st asked subtrees (is_found found)
wanted_value Explain asked st subtrees found = explained_value st asked subtrees (is_found found)

-- and last what it stands on
abbrev pub wanted_text : Format → Wanted → Everybody → State → List Names → List ℕ → List ℕ
wanted_text Lines wanted asked st subtrees found = wanted_lines wanted asked st subtrees found ++ premise_lines asked
wanted_text Json wanted asked st subtrees found = json_line (wanted_value wanted asked st subtrees found)

abbrev pub found_report_in : Format → Wanted → Everybody → State → List Names → List ℕ → Report
found_report_in format wanted asked st subtrees found = record {
  text = wanted_text format wanted asked st subtrees found;
  ending = Ok (found_status found);
}

abbrev pub found_report : Wanted → Everybody → State → List Names → List ℕ → Report
found_report wanted asked st subtrees found = found_report_in Lines wanted asked st subtrees found

-- the first fault of the subtrees, in the order of their list, or what is found of them
abbrev pub everybody_found : State → Everybody → List Names → Result (List ℕ) CheckFault
everybody_found st asked subtrees = unless_fault (first (flat_map (subtree_faults st) subtrees)) (everybody_lines st asked subtrees)

abbrev pub everybody_said_in : Format → Wanted → Everybody → State → List Names → Report
everybody_said_in format wanted asked st subtrees =
    report_on (in_call (everybody_found st asked subtrees)) (found_report_in format wanted asked st subtrees)

abbrev pub everybody_said : Wanted → Everybody → State → List Names → Report
everybody_said wanted asked st subtrees = everybody_said_in Lines wanted asked st subtrees

-- There are no users about whom it is asked.
abbrev pub AnswersEverybody : Format → Wanted → Everybody → State → List Identity → List Names → Option (List ℕ) → Option (List ℕ)
    → Result ℕ CliFault → Type 0
AnswersEverybody format wanted asked st users subtrees = Reports (everybody_said_in format wanted asked st subtrees)

-- All paths are looked at first; then the tree's text, and whether the subtrees are ones that can be checked. What is named again
-- counts once.
abbrev pub everybody_report_in : Format → Wanted → Everybody → Reading → List (List ℕ) → Report
everybody_report_in format wanted asked tree texts =
    report_on (paths_read texts) (λ subtrees.
    report_on (tree_read tree) (λ st. everybody_said_in format wanted asked st (once same_path subtrees)))

abbrev pub everybody_report : Wanted → Everybody → Reading → List (List ℕ) → Report
everybody_report wanted asked tree texts = everybody_report_in Lines wanted asked tree texts
