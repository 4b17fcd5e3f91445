-- What advice, audits and explanations say of pairs, each as it is named.
use Rattle.std.proofs.Common.{◌≡◌, ℕ, Bool, true, cond, List, [], ◌∷◌, ◌++◌, map, get_or, Option, Result, Ok, Err, refl, ap, sym, subst, ◌∙◌}
use Rattle.std.specs.List.{All, AllByRecursion, filter, flat_map}
use Rattle.std.proofs.lemmas.List.Elements.{All-from_recursion}
use Rattle.cg_cgroup.specs.Paths.{Names}
use Rattle.cg_cgroup.specs.Users.{IsUser}
use Rattle.cg_cgroup.specs.Identity.{Identity}
use Rattle.cg_model.specs.States.{State}
use Rattle.cg_model.specs.WellFormed.{IsWellFormed}
use Rattle.cg_model.specs.Answers.{answer}
use Rattle.cg_model.specs.Checks.{subtree_faults}
use Rattle.cg_model.specs.Clauses.{first}
use Rattle.cg_model.specs.Guards.{IsSubtree}
use Rattle.cg_model.specs.Held.{IsContained}
use Rattle.cg_model.specs.Listed.{Listed, listed_unless_contained, is_contained}
use Rattle.cg_model.specs.Mends.{Pair, advised}
use Rattle.cg_model.specs.Several.{AreContained}
use Rattle.cg_model.specs.Advised.{AreCountable}
use Rattle.cg_model.specs.declared.answer.Answer.{Answer}
use Rattle.cg_model.specs.declared.answer.Answer.TheVariants.{Contained, Escapes, Unsettled}
use Rattle.cg_advice.specs.AdviceLines.{pairs_lines}
use Rattle.cg_cli.specs.Audits.{users_read, paths_read}
use Rattle.cg_cli.specs.Reports.{report_on}
use Rattle.cg_cli.specs.Advising.{paired, advice_report, advise_pairs_report, named_with, AreContainedAsNamed, IsAdvisable}
use Rattle.cg_cli.specs.AllPairs.{Listing, read_then, ReportsPairsBy}
use Rattle.cg_cli.specs.EachPair.{pairs_listed, pairs_then, audited_unless_fault, audit_pairs_report, explain_pairs_asked, UnlistedAsNamed}
use Rattle.cg_cli.specs.Explaining.{Writing, asked_unless_fault, TellsPairsBy, ReportsToldBy}
use Rattle.cg_cli.proofs.NamedPairs.{contained-as-named, advised-as-named, each_named, some_named, paired_subtrees}
use Rattle.cg_cli.proofs.EachPair.{unlisted-as-named}
use Rattle.cg_escapes.proofs.EscapeReplays.{found_is, unfaulted}
use Rattle.cg_faults.specs.declared.fault.CliFault.{CliFault}
use Rattle.theorems.proofs.AdviceLaws.{users_are, are_subtrees, lines_are}
use Rattle.theorems.proofs.ExplainedLaws.{told_contained}
use Rattle.theorems.proofs.NoneListed.{all_none}
use Rattle.theorems.proofs.StatusLaws.{IsFound, found_of_pairs, no_lines}

-- ---- that none is listed

each_unlisted : (st : State) (pairs : List Pair) → pairs_listed st pairs ≡ []
    → AllByRecursion (λ (pair : Pair). is_contained (answer st pair.user pair.subtree) ≡ true) pairs
each_unlisted st [] none = tt
each_unlisted st (pair ∷ pairs) none =
    let both = by_answer (answer st pair.user pair.subtree) none in (both.0, each_unlisted st pairs both.1)
  where
    by_answer : (found : Answer) → listed_unless_contained pair.user pair.subtree found ++ pairs_listed st pairs ≡ []
        → (is_contained found ≡ true) × (pairs_listed st pairs ≡ [])
    by_answer Contained none = (refl, none)
    by_answer (Escapes ops) none = let never : ⊥ = cc in absurd never
    by_answer (Unsettled failed) none = let never : ⊥ = cc in absurd never

all_kept : (test : Identity → Bool) (users : List Identity) → AllByRecursion (λ user. test user ≡ true) users → filter test users ≡ users
all_kept test [] all = refl
all_kept test (user ∷ users) all =
    ap (λ b. cond b (user ∷ filter test users) (filter test users)) all.0 ∙ ap (λ l. user ∷ l) (all_kept test users all.1)

of_subtree : (st : State) (pairs : List Pair)
    → AllByRecursion (λ (pair : Pair). is_contained (answer st pair.user pair.subtree) ≡ true) pairs → (subtree : Names)
    → AllByRecursion (λ (pair : Pair). pair.subtree ≡ subtree → is_contained (answer st pair.user subtree) ≡ true) pairs
of_subtree st [] all subtree = tt
of_subtree st (pair ∷ pairs) all subtree =
    ((λ is. subst (λ path. is_contained (answer st pair.user path) ≡ true) is all.0), of_subtree st pairs all.1 subtree)

contained_unlisted : (st : State) (pairs : List Pair) → UnlistedAsNamed st pairs → pairs_listed st pairs ≡ [] → AreContainedAsNamed st pairs
contained_unlisted st pairs unlisted none k d within =
    let subtree = (get_or pairs k d).subtree in
    let kept =
    all_kept (λ user. is_contained (answer st user subtree)) (named_with pairs subtree)
    (each_named (λ user. is_contained (answer st user subtree) ≡ true) subtree pairs
    (of_subtree st pairs (each_unlisted st pairs none) subtree)) in
    subst (λ (users : List Identity). AreContained st users (subtree ∷ [])) kept
    (unlisted k d within (λ empty. some_named pairs k d within (sym kept ∙ empty)))

-- ---- the advice

are_advisable : (st : State) (users : List Identity) (subtrees : List Names) → AllByRecursion IsUser users
    → AllByRecursion (λ path. IsSubtree st path × AreCountable st path) subtrees → AllByRecursion (IsAdvisable st) (paired users subtrees)
are_advisable st [] subtrees may subs = tt
are_advisable st (user ∷ users) [] may subs = tt
are_advisable st (user ∷ users) (subtree ∷ subtrees) may subs =
    (record { user = may.0; subtree = subs.0.0; countable = subs.0.1 }, are_advisable st users subtrees may.1 subs.1)

module _ (st : State) (given : List ((ℕ × List ℕ) × List ℕ)) (users : List Identity) (subtrees : List Names) (formed : IsWellFormed st)
    (of_users : users_read (map (λ pair. pair.0) given) ≡ Ok users)
    (of_paths : paths_read (map (λ pair. pair.1) given) ≡ Ok subtrees) where
  report_is : advise_pairs_report (Ok st) given ≡ advice_report st subtrees (paired users subtrees)
  report_is =
      ap (λ u. report_on u (λ users. report_on (paths_read (map (λ pair. pair.1) given))
      (λ subtrees. advice_report st subtrees (paired users subtrees)))) of_users
      ∙ ap (λ p. report_on p (λ subtrees. advice_report st subtrees (paired users subtrees))) of_paths

  found : (status : ℕ) → (advise_pairs_report (Ok st) given).ending ≡ Ok status
      → IsFound st subtrees (paired users subtrees) (advise_pairs_report (Ok st) given) status
  found = found_of_pairs st subtrees (paired users subtrees) (advise_pairs_report (Ok st) given) report_is

  pub contained_as_they_are : (advise_pairs_report (Ok st) given).ending ≡ Ok 0 → AreContainedAsNamed st (paired users subtrees)
  contained_as_they_are is =
      let said = found 0 is in
      contained-as-named st users subtrees said.1 (λ _. formed) (sym (said.2 ∙ no_lines said.0 said.4))

  pub changed_as_named : (advise_pairs_report (Ok st) given).ending ≡ Ok 1 → All (AreCountable st) subtrees
      → ((advise_pairs_report (Ok st) given).text ≡ pairs_lines st (paired users subtrees))
      × AreContainedAsNamed (advised st (paired users subtrees)) (paired users subtrees)
  changed_as_named is countable =
      let said = found 1 is in (
        said.3 ∙ lines_are st (paired users subtrees) said.0 said.2 said.4,
        advised-as-named st (paired users subtrees) formed
            (All-from_recursion (IsAdvisable st) (paired users subtrees)
            (are_advisable st users subtrees (users_are (map (λ pair. pair.0) given) users of_users)
            (are_subtrees st subtrees said.1 countable))),
      )

  -- ---- what else is said of them

  then_is : {A : Type 0} (found : State → List Names → List Pair → Result A CliFault)
      → pairs_then found (Ok st) given ≡ found st subtrees (paired users subtrees)
  then_is found =
      ap (λ u. read_then u (λ users. read_then (paths_read (map (λ pair. pair.1) given))
      (λ subtrees. found st subtrees (paired users subtrees)))) of_users
      ∙ ap (λ p. read_then p (λ subtrees. found st subtrees (paired users subtrees))) of_paths

  pub audited_as_named : (how : Listing) (old new : Option (List ℕ)) (status : ℕ)
      → ReportsPairsBy how (audit_pairs_report (Ok st) given) old new (Ok status)
      → UnlistedAsNamed st (paired users subtrees) × (status ≡ 0 → AreContainedAsNamed st (paired users subtrees))
  audited_as_named how old new status reports = by_report (audit_pairs_report (Ok st) given) refl reports
    where
      by_report : (report : Result (List Listed) CliFault) → audit_pairs_report (Ok st) given ≡ report
          → ReportsPairsBy how report old new (Ok status)
          → UnlistedAsNamed st (paired users subtrees) × (status ≡ 0 → AreContainedAsNamed st (paired users subtrees))
      by_report (Err fault) is never = absurd never
      by_report (Ok listed) is reports =
          let stated =
          unfaulted (first (flat_map (subtree_faults st) subtrees)) (pairs_listed st (paired users subtrees)) listed
          (found_is _ listed (sym (then_is audited_unless_fault) ∙ is)) in
          let unlisted = unlisted-as-named st users subtrees stated.0 (λ _. formed) in (
            unlisted,
            λ zero. contained_unlisted st (paired users subtrees) unlisted (stated.1 ∙ all_none listed (reports.0 ∙ zero)),
          )

  pub explained_as_named : (written : Writing) (old new : Option (List ℕ)) (status : ℕ)
      → ReportsToldBy written (explain_pairs_asked (Ok st) given) old new (Ok status) → status ≡ 0
      → All (λ (pair : Pair). IsContained st pair.user pair.subtree) (paired users subtrees)
  explained_as_named written old new status reports zero = by_asked (explain_pairs_asked (Ok st) given) refl reports
    where
      by_asked : (asked : Result (State × List Pair) CliFault) → explain_pairs_asked (Ok st) given ≡ asked
          → ReportsToldBy written asked old new (Ok status)
          → All (λ (pair : Pair). IsContained st pair.user pair.subtree) (paired users subtrees)
      by_asked (Err fault) is never = absurd never
      by_asked (Ok asked) is tells =
          let stated =
          unfaulted (first (flat_map (subtree_faults st) subtrees)) (st, paired users subtrees) asked
          (found_is _ asked (sym (then_is asked_unless_fault) ∙ is)) in
          told_contained st formed written (paired users subtrees) old new status
          (subst (λ (both : State × List Pair). TellsPairsBy written both.0 both.1 old new (Ok status)) (sym stated.1) tells) zero
          (paired_subtrees st users subtrees stated.0)
