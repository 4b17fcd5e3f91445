-- What the report on everybody says, by what was found.
use Rattle.std.proofs.Common.{◌≡◌, ℕ, true, List, [], Option, Result, Err, refl, sym, ◌∙◌, subst}
use Rattle.cg_cgroup.specs.Identity.{Identity}
use Rattle.cg_cgroup.specs.Paths.{Names, same_path}
use Rattle.cg_model.specs.Once.{once}
use Rattle.cg_model.specs.States.{State}
use Rattle.cg_format.specs.Readings.{Reading}
use Rattle.machine_everybody.specs.Everybody.{Everybody}
use Rattle.cg_cli.specs.Asking.{named_read, IsKeptOnce, NamedReports}
use Rattle.cg_cli.specs.Containment.{in_call}
use Rattle.cg_cli.specs.Everybody.{found_report_in, everybody_found, everybody_said_in, AnswersEverybody, everybody_report_in}
use Rattle.cg_cli.specs.Reports.{Report, Reports, takes_memory}
use Rattle.cg_cli.specs.declared.everybody.Wanted.{Wanted}
use Rattle.cg_cli.specs.declared.format.Format.{Format}
use Rattle.cg_faults.specs.declared.fault.CliFault.{CliFault}
use Rattle.cg_cli.proofs.AdviseReports.{fault_said, said_of_read}
use Rattle.cg_cli.proofs.NamedReads.{by_reading}
use Rattle.cg_cli.proofs.ReportLaws.{call_takes, report_takes}

module _ (format : Format) (wanted : Wanted) (asked : Everybody) where
  of_lines : (st : State) (subtrees : List Names) (lines : List ℕ)
      → takes_memory (found_report_in format wanted asked st subtrees lines).ending ≡ true
  of_lines st subtrees lines = refl

  pub everybody_takes : (st : State) (subtrees : List Names)
      → takes_memory (everybody_said_in format wanted asked st subtrees).ending ≡ true
  everybody_takes st subtrees =
      report_takes (in_call (everybody_found st asked subtrees)) (found_report_in format wanted asked st subtrees) (of_lines st subtrees)
      (call_takes (everybody_found st asked subtrees))

  -- of subtrees each of which counts once
  abbrev once_said : State → List Identity → List Names → Report
  once_said st users subtrees = everybody_said_in format wanted asked st (once same_path subtrees)

  once_takes : (st : State) (users : List Identity) (subtrees : List Names) → takes_memory (once_said st users subtrees).ending ≡ true
  once_takes st users subtrees = everybody_takes st (once same_path subtrees)

  said_of_kept : (tree : Reading) (texts : List (List ℕ)) (users : List Identity) (subtrees : List Names) (st : State)
      → IsKeptOnce (named_read [] texts tree) users subtrees st
      → everybody_report_in format wanted asked tree texts ≡ everybody_said_in format wanted asked st subtrees
  said_of_kept tree texts users subtrees st kept =
      said_of_read once_said once_takes tree [] texts kept.all_users kept.all_subtrees st kept.is
      ∙ (λ i. everybody_said_in format wanted asked st (sym kept.of_subtrees i))

  pub everybody_is_said : (tree : Reading) (texts : List (List ℕ)) (old new : Option (List ℕ)) (result : Result ℕ CliFault)
      → NamedReports (AnswersEverybody format wanted asked) tree [] texts old new result
      → Reports (everybody_report_in format wanted asked tree texts) old new result
  everybody_is_said tree texts =
      by_reading (AnswersEverybody format wanted asked) tree [] texts (Reports (everybody_report_in format wanted asked tree texts))
      (λ fault met known. fault_said once_said once_takes tree [] texts fault met known (Err fault) refl)
      (λ users subtrees st kept old new result said.
      subst (λ (r : Report). Reports r old new result) (sym (said_of_kept tree texts users subtrees st kept)) said)
