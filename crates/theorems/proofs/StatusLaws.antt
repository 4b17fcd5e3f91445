-- What the status of a report says of what was asked.
use Rattle.std.proofs.Common.{◌≡◌, ◌≢◌, ℕ, List, [], ◌∷◌, get_or, Option, Some, None, Result, Ok, Err, refl, ap, sym, ◌∙◌}
use Rattle.std.specs.Prelude.{unwrap_or}
use Rattle.std.specs.List.{All, AllByRecursion, flat_map}
use Rattle.cg_cgroup.specs.Paths.{Names, same_path}
use Rattle.cg_cgroup.specs.Identity.{Identity}
use Rattle.cg_model.specs.States.{State}
use Rattle.cg_model.specs.WellFormed.{IsWellFormed}
use Rattle.cg_model.specs.Clauses.{first}
use Rattle.cg_model.specs.AllAnswers.{pairs_from, all_answers}
use Rattle.cg_model.specs.Checks.{subtree_faults, all_checked}
use Rattle.cg_model.specs.Guards.{IsSubtree}
use Rattle.cg_model.specs.Several.{AreContained}
use Rattle.cg_model.specs.Listed.{Listed, listed}
use Rattle.cg_model.specs.Once.{once}
use Rattle.cg_model.specs.Mends.{Pair}
use Rattle.cg_model.specs.declared.answer.AllAnswer.{AllAnswer}
use Rattle.cg_model.specs.declared.answer.AllAnswer.TheVariants as all
use Rattle.cg_check.proofs.AllContained.{are-contained}
use Rattle.cg_check.proofs.Checking.{no_fault}
use Rattle.cg_check.proofs.ListedLaws.{all-unlisted}
use Rattle.cg_check.proofs.Pairs.{none-element}
use Rattle.cg_cli.specs.Reports.{Report, report_on}
use Rattle.cg_cli.specs.Containment.{in_call}
use Rattle.cg_cli.specs.Audits.{users_read, paths_read, audit_status, audit_answer_report, pairs_report, audit_report}
use Rattle.cg_cli.specs.Once.{same_user}
use Rattle.cg_cli.specs.AllPairs.{Listing, read_then, pairs_found, all_report, ReportsPairsBy, UnlistedAreContained}
use Rattle.cg_cli.specs.Advising.{lines_report, all_pairs, advised as advice_of, advice_report, advise_report}
use Rattle.cg_advice.specs.AdviceLines.{advice_lines}
use Rattle.cg_cli.proofs.AdviseReports.{contained-unadvised}
use Rattle.cg_cli.proofs.AuditStatus.{IsNamed, named, status_is_contained}
use Rattle.cg_cli.proofs.AuditOnce.{same_user-is, some_once, contained_once}
use Rattle.cg_escapes.proofs.EscapeReplays.{report_ok, found_is, status_is, unfaulted}
use Rattle.cg_faults.specs.declared.fault.CliFault.{CliFault}
use Rattle.theorems.proofs.NoneListed.{all_none, none_contained}

-- subtrees without a fault are there
pub all_there : (st : State) (subtrees : List Names) → first (flat_map (subtree_faults st) subtrees) ≡ None → All (IsSubtree st) subtrees
all_there st subtrees none k d within =
    no_fault st (get_or subtrees k d) (sym (none-element (subtree_faults st) subtrees k d within none))

-- ---- the advice for pairs

-- what is found, where no subtree has a fault, and what is said of it
abbrev pub IsFound : State → List Names → List Pair → Report → ℕ → Type 0
IsFound st subtrees pairs report status =
    (found : Option (List ℕ)) × (first (flat_map (subtree_faults st) subtrees) ≡ None) × (advice_lines st pairs ≡ found)
    × (report.text ≡ (lines_report found).text) × ((lines_report found).ending ≡ Ok status)

pub found_of_pairs : (st : State) (subtrees : List Names) (pairs : List Pair) (report : Report)
    → report ≡ advice_report st subtrees pairs → (status : ℕ) → report.ending ≡ Ok status → IsFound st subtrees pairs report status
found_of_pairs st subtrees pairs report is_report status is =
    let one =
    report_ok (in_call (advice_of st subtrees pairs)) lines_report status (ap (λ (r : Report). r.ending) (sym is_report) ∙ is) in
    let found = found_is (advice_of st subtrees pairs) one.0 one.1 in
    let stated = unfaulted (first (flat_map (subtree_faults st) subtrees)) (advice_lines st pairs) one.0 found in (
      one.0,
      stated.0,
      stated.1,
      ap (λ (r : Report). r.text) (is_report ∙ ap (λ answer. report_on (in_call answer) lines_report) found),
      one.2,
    )

pub no_lines : (found : Option (List ℕ)) → (lines_report found).ending ≡ Ok 0 → found ≡ None
no_lines None is = refl
no_lines (Some lines) is = cc

-- ---- several users

-- no pair is told as contained
no_pairs : (pairs : List AllAnswer) → AllByRecursion IsNamed pairs → unwrap_or (first pairs) all.Contained ≡ all.Contained
    → first pairs ≡ None
no_pairs [] each none = refl
no_pairs (pair ∷ pairs) each none = absurd (each.0 (ap audit_status none))

module _ (st : State) (given : List (ℕ × List ℕ)) (words : List (List ℕ)) (users : List Identity) (subtrees : List Names)
    (formed : IsWellFormed st) (of_users : users_read given ≡ Ok users) (of_paths : paths_read words ≡ Ok subtrees) where
  audit_is : audit_report (Ok st) given words ≡ pairs_report st users subtrees
  audit_is =
      ap (λ u. report_on u (λ users. report_on (paths_read words) (λ subtrees. pairs_report st users subtrees))) of_users
      ∙ ap (λ p. report_on p (λ subtrees. pairs_report st users subtrees)) of_paths

  pub all_contained_by_status : users ≢ [] → (audit_report (Ok st) given words).ending ≡ Ok 0 → AreContained st users subtrees
  all_contained_by_status some is =
      let one =
      report_ok (in_call (all_checked st users subtrees)) (audit_answer_report users subtrees) 0
      (ap (λ (r : Report). r.ending) (sym audit_is) ∙ is) in
      let found = found_is (all_checked st users subtrees) one.0 one.1 in
      let contained = status_is_contained st users subtrees one.0 found (status_is (audit_status one.0) 0 one.2) in
      let stated =
      unfaulted (first (flat_map (subtree_faults st) subtrees)) (all_answers st users subtrees) all.Contained
      (found ∙ ap Ok contained) in
      are-contained st users subtrees stated.0 (λ _. formed)
      (no_pairs (pairs_from st 0 users subtrees) (named st 0 users subtrees) stated.1) some

  listing_is : all_report (Ok st) given words ≡ pairs_found st (once same_user users) (once same_path subtrees)
  listing_is =
      ap (λ u. read_then u (λ users. read_then (paths_read words)
      (λ subtrees. pairs_found st (once same_user users) (once same_path subtrees))))
      of_users
      ∙ ap (λ p. read_then p (λ subtrees. pairs_found st (once same_user users) (once same_path subtrees))) of_paths

  pub pairs_by_report : (pairs : List Listed) → all_report (Ok st) given words ≡ Ok pairs
      → (pairs ≡ listed st (once same_user users) (once same_path subtrees))
      × UnlistedAreContained st (once same_user users) (once same_path subtrees)
  pairs_by_report pairs is =
      let stated =
      unfaulted (first (flat_map (subtree_faults st) (once same_path subtrees)))
      (listed st (once same_user users) (once same_path subtrees)) pairs
      (found_is _ pairs (sym listing_is ∙ is)) in
      (sym stated.1, all-unlisted st (once same_user users) (once same_path subtrees) stated.0 (λ _. formed))

  -- where no pair is listed
  pub all_contained_by_pairs : (how : Listing) → users ≢ [] → (old new : Option (List ℕ)) (status : ℕ)
      → ReportsPairsBy how (all_report (Ok st) given words) old new (Ok status) → status ≡ 0 → AreContained st users subtrees
  all_contained_by_pairs how some old new status reports zero = by_report (all_report (Ok st) given words) refl reports
    where
      by_report : (report : Result (List Listed) CliFault) → all_report (Ok st) given words ≡ report
          → ReportsPairsBy how report old new (Ok status) → AreContained st users subtrees
      by_report (Err fault) is never = absurd never
      by_report (Ok pairs) is reports =
          let stated =
          unfaulted (first (flat_map (subtree_faults st) (once same_path subtrees)))
          (listed st (once same_user users) (once same_path subtrees)) pairs
          (found_is _ pairs (sym listing_is ∙ is)) in
          contained_once users subtrees st
          (none_contained st (once same_user users) (once same_path subtrees) formed (all_there st (once same_path subtrees) stated.0)
          (stated.1 ∙ all_none pairs (reports.0 ∙ zero)) (some_once same_user same_user-is users some))

  advice_is : advise_report (Ok st) given words
      ≡ advice_report st (once same_path subtrees) (all_pairs (once same_user users) (once same_path subtrees))
  advice_is =
      ap (λ u. report_on u (λ users. report_on (paths_read words)
      (λ subtrees. advice_report st (once same_path subtrees) (all_pairs (once same_user users) (once same_path subtrees)))))
      of_users
      ∙ ap (λ p. report_on p (λ subtrees.
      advice_report st (once same_path subtrees) (all_pairs (once same_user users) (once same_path subtrees)))) of_paths

  pub advice_found : (status : ℕ) → (advise_report (Ok st) given words).ending ≡ Ok status
      → IsFound st (once same_path subtrees) (all_pairs (once same_user users) (once same_path subtrees))
      (advise_report (Ok st) given words) status
  advice_found =
      found_of_pairs st (once same_path subtrees) (all_pairs (once same_user users) (once same_path subtrees))
      (advise_report (Ok st) given words) advice_is

  pub all_contained_by_advice : users ≢ [] → (advise_report (Ok st) given words).ending ≡ Ok 0 → AreContained st users subtrees
  all_contained_by_advice some is =
      let found = advice_found 0 is in
      contained_once users subtrees st
      (contained-unadvised st (once same_path subtrees) found.1 (once same_user users) (λ _. formed)
      (sym (found.2 ∙ no_lines found.0 found.4)) (some_once same_user same_user-is users some))
