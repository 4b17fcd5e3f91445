-- What is said as JSON, by what was read.
use Rattle.std.specs.List.{flat_map, list_all}
use Rattle.std.specs.Option.{ForSome}
use Rattle.std.proofs.Common.{◌≡◌, ◌≢◌, ℕ, Bool, true, false, cond, List, map, Option, Some, None, Result, Ok, Err, refl, sym, ap, ◌∙◌, subst, inl, inr}
use Rattle.std.proofs.KnownBytes.{Keeps-refl}
use Rattle.cg_cgroup.specs.Paths.{Names, same_path}
use Rattle.cg_cgroup.specs.Identity.{Identity}
use Rattle.cg_model.specs.States.{State}
use Rattle.cg_model.specs.Answers.{answer}
use Rattle.cg_model.specs.Bars.{bars}
use Rattle.cg_model.specs.Clauses.{first}
use Rattle.cg_model.specs.Mends.{Pair}
use Rattle.cg_model.specs.Once.{once}
use Rattle.cg_model.specs.Checks.{subtree_faults, unless_fault, checked, all_checked}
use Rattle.cg_model.specs.declared.answer.Answer.{Answer}
use Rattle.cg_model.specs.declared.fault.CheckFault.{CheckFault}
use Rattle.cg_model.specs.declared.fault.CheckFault.TheVariants.{RootSubtree, NoSuchSubtree, NoMemory as CheckNoMemory}
use Rattle.cg_model.specs.declared.operation.Op.{Op}
use Rattle.cg_model.specs.declared.outcome.Refusal.{Refusal}
use Rattle.cg_model.specs.declared.outcome.Outcome.TheVariants.{Refused}
use Rattle.cg_lines.specs.Outcomes.{CanShow}
use Rattle.cg_lines.proofs.OutcomeLaws.{bars_shown}
use Rattle.cg_advice.specs.AdviceLines.{is_pair_guarded, pairs_lines, advice_lines}
use Rattle.cg_advice.specs.Found.{Let, Raised, parts_of, advice_parts}
use Rattle.cg_format.specs.Readings.{Reading}
use Rattle.cg_faults.specs.Faults.{lifted_check}
use Rattle.cg_faults.specs.declared.fault.CliFault.{CliFault}
use Rattle.cg_faults.specs.declared.fault.CliFault.TheVariants.{NoMemory}
use Rattle.cg_cli.specs.Advising.{lines_report, all_pairs, paired, advice_report, named_report, advise_report, advise_pairs_report}
use Rattle.cg_cli.specs.Arguments.{user_read, pid_read, path_read}
use Rattle.cg_cli.specs.AsJson.{answer_json_report, subtree_json_report, FurtherSaysAsJson, audit_json_answer, pairs_json_report, parts_status, parts_report, parts_asked, advice_json_report, settled_parts, settled_asked, settled_json_report, AdvisesNamedAsJson, advise_json_report, advise_pairs_json_report, advise_settled_json_report, move_json_report, may_json_report, check_json_report, audit_json_report}
use Rattle.cg_cli.specs.Asking.{named_read, PairsReport, NamedReports}
use Rattle.cg_cli.specs.Audits.{users_read, paths_read, audit_answer_report, pairs_report, audit_report}
use Rattle.cg_cli.specs.Containment.{in_call, answer_report, subtree_report, check_report}
use Rattle.cg_cli.specs.May.{move_report, tree_read, may_report}
use Rattle.cg_cli.specs.Once.{same_user}
use Rattle.cg_cli.specs.Pairs.{pair_given}
use Rattle.cg_cli.specs.Reports.{Said, Report, Reports, fault_report, report_on, takes_memory}
use Rattle.cg_cli.specs.SettledAdvice.{are_held, settled_report, advise_settled_report}
use Rattle.cg_cli.specs.Settled.{IsSettledFrom, IsSettled, IsSettledFault}
use Rattle.cg_cli.specs.Settling.{SaysOn}
use Rattle.cg_cli.specs.declared.pairs.PairIds.{PairIds}
use Rattle.cg_cli.proofs.AdviseReports.{all_guarded, fault_said, said_of_read}
use Rattle.cg_cli.proofs.AuditOnce.{said_once}
use Rattle.cg_cli.proofs.NamedPairs.{mapped_again}
use Rattle.cg_cli.proofs.NamedReads.{by_read, by_reading}
use Rattle.cg_cli.proofs.ReportLaws.{call_takes, report_takes}
use Rattle.cg_cli.proofs.SettleReports.{some_settled}

-- ---- one user and one subtree

pub containment_takes : (st : State) (user : Identity) (path : Names) → takes_memory (subtree_json_report st user path).ending ≡ true
containment_takes st user path =
    report_takes (in_call (checked st user path)) (answer_json_report path) (λ found. refl) (call_takes (checked st user path))

module _ (st : State) (user : Identity) (subtree : Names) where
  abbrev SaysFrom : Answer → Report → Type 0
  SaysFrom given said = (found : Answer) × IsSettledFrom st user subtree given found × (said ≡ answer_json_report subtree found)

  says_some : (found : Result Answer CheckFault)
      → (said : Report) × SaysOn (in_call found) SaysFrom said × (takes_memory said.ending ≡ true)
  says_some (Ok given) =
      let some = some_settled st user subtree given in (answer_json_report subtree some.0, (some.0, some.1, refl), refl)
  says_some (Err RootSubtree) = (fault_report (lifted_check RootSubtree), refl, refl)
  says_some (Err NoSuchSubtree) = (fault_report (lifted_check NoSuchSubtree), refl, refl)
  says_some (Err CheckNoMemory) = (fault_report (lifted_check CheckNoMemory), refl, refl)

  pub settling_takes : (said : Report) × FurtherSaysAsJson IsSettledFrom st user subtree said × (takes_memory said.ending ≡ true)
  settling_takes = says_some (checked st user subtree)

  pub says_found : (found : Answer) → first (subtree_faults st subtree) ≡ None → IsSettled st user subtree found → (said : Report)
      → said ≡ answer_json_report subtree found → FurtherSaysAsJson IsSettledFrom st user subtree said
  says_found found none settled said is =
      subst (λ fault. SaysOn (in_call (unless_fault fault (answer st user subtree))) SaysFrom said) (sym none) (found, settled, is)

  pub says_fault : (fault : CheckFault) → IsSettledFault st subtree fault → fault ≢ CheckNoMemory
      → FurtherSaysAsJson IsSettledFrom st user subtree (fault_report (lifted_check fault))
  says_fault fault (inl memory) other = absurd (other memory)
  says_fault fault (inr is) other =
      subst
      (λ found. SaysOn (in_call (unless_fault found (answer st user subtree))) SaysFrom (fault_report (lifted_check fault)))
      (sym is) refl

-- ---- several

pub pairs_take : (st : State) (users : List Identity) (subtrees : List Names)
    → takes_memory (pairs_json_report st users subtrees).ending ≡ true
pairs_take st users subtrees =
    report_takes (in_call (all_checked st users subtrees)) (audit_json_answer users subtrees) (λ found. refl)
    (call_takes (all_checked st users subtrees))

-- a report on users and subtrees each of whom counts once
module _ (report : State → List Identity → List Names → Report)
    (takes : (st : State) (users : List Identity) (subtrees : List Names) → takes_memory (report st users subtrees).ending ≡ true) where
  abbrev of_once : State → List Identity → List Names → Report
  of_once st users subtrees = report st (once same_user users) (once same_path subtrees)

  of_once_takes : (st : State) (users : List Identity) (subtrees : List Names) → takes_memory (of_once st users subtrees).ending ≡ true
  of_once_takes st users subtrees = takes st (once same_user users) (once same_path subtrees)

  pub once_said : (answers : State → List Identity → List Names → Option (List ℕ) → Option (List ℕ) → Result ℕ CliFault → Type 0)
      → ((st : State) (users : List Identity) (subtrees : List Names) (old new : Option (List ℕ)) (result : Result ℕ CliFault)
      → answers st users subtrees old new result → Reports (report st users subtrees) old new result)
      → (tree : Reading) (given : List (ℕ × List ℕ)) (texts : List (List ℕ)) (old new : Option (List ℕ)) (result : Result ℕ CliFault)
      → NamedReports answers tree given texts old new result → Reports (named_report of_once tree given texts) old new result
  once_said answers says tree given texts =
      by_reading answers tree given texts (Reports (named_report of_once tree given texts))
      (λ fault met known. fault_said of_once of_once_takes tree given texts fault met known (Err fault) refl)
      (λ users subtrees st kept old new result said.
      subst (λ (r : Report). Reports r old new result)
      (sym (said_of_read of_once of_once_takes tree given texts kept.all_users kept.all_subtrees st kept.is
      ∙ (λ i. report st (sym kept.of_users i) (sym kept.of_subtrees i))))
      (says st users subtrees old new result said))

-- ---- moves

-- what bars an operation can be shown
pub bar_shown : (st : State) (user : Identity) (op : Op) (bar : Option Refusal) → bar ≡ first (bars st user op)
    → ForSome bar (λ one. CanShow op (Refused one))
bar_shown st user op bar is = λ one same. bars_shown st user op one (sym is ∙ same)

-- A move that is read, and of which memory was refused.
pub unsaid_as_json : (read : Reading) (uid : ℕ) (gids : List ℕ) (pid : ℕ) (to : List ℕ) (user : Identity) (number : ℕ) (path : Names)
    (st : State) → user_read uid gids ≡ Ok user → pid_read pid ≡ Ok number → path_read to ≡ Ok path → read ≡ Ok st
    → (known : Option (List ℕ)) (result : Result ℕ CliFault) → result ≡ Err NoMemory
    → Reports (may_json_report read uid gids pid to) known known result
unsaid_as_json read uid gids pid to user number path st is_user is_pid is_path is_tree known result refused =
    subst (λ (r : Result ℕ CliFault). Reports (may_json_report read uid gids pid to) known known r) (sym refused)
    (rw (is_user, is_pid, is_path, is_tree) refl, Keeps-refl known)

-- ---- advice

pub advice_takes : (st : State) (subtrees : List Names) (pairs : List Pair)
    → takes_memory (advice_json_report st subtrees pairs).ending ≡ true
advice_takes st subtrees pairs =
    report_takes (in_call (parts_asked st subtrees pairs)) parts_report (λ found. refl) (call_takes (parts_asked st subtrees pairs))

-- where no guard fails
pub no_parts : (st : State) (pairs : List Pair) → None ≡ advice_lines st pairs → None ≡ advice_parts st pairs
no_parts st pairs none = sym (ap (λ guarded. cond guarded None (Some (parts_of st pairs))) (all_guarded st pairs none))

pub no_lines : (st : State) (pairs : List Pair) → parts_status (advice_parts st pairs) ≡ 0 → None ≡ advice_lines st pairs
no_lines st pairs = by_test (list_all (is_pair_guarded st) pairs)
  where
    by_test : (guarded : Bool) → parts_status (cond guarded None (Some (parts_of st pairs))) ≡ 0
        → None ≡ cond guarded None (Some (pairs_lines st pairs))
    by_test true zero = refl
    by_test false zero = let never : ⊥ = cc in absurd never

-- of subtrees without a fault
pub advice_found : (st : State) (subtrees : List Names) (pairs : List Pair) → first (flat_map (subtree_faults st) subtrees) ≡ None
    → (said : Report) → parts_report (advice_parts st pairs) ≡ said → advice_json_report st subtrees pairs ≡ said
advice_found st subtrees pairs none said is =
    ap (λ fault. report_on (in_call (unless_fault fault (advice_parts st pairs))) parts_report) none ∙ is

pub settled_takes : (st : State) (users : List Identity) (subtrees : List Names)
    → takes_memory (settled_json_report st users subtrees).ending ≡ true
settled_takes st users subtrees =
    report_takes (in_call (settled_asked st users subtrees)) parts_report (λ found. refl) (call_takes (settled_asked st users subtrees))

-- of subtrees without a fault
pub settled_found : (st : State) (users : List Identity) (subtrees : List Names) → first (flat_map (subtree_faults st) subtrees) ≡ None
    → (said : Report) → parts_report (settled_parts st users subtrees) ≡ said → settled_json_report st users subtrees ≡ said
settled_found st users subtrees none said is =
    ap (λ fault. report_on (in_call (unless_fault fault (settled_parts st users subtrees))) parts_report) none ∙ is

-- whether the second row holds or not
pub nothing_settled : (st : State) (users : List Identity) (subtrees : List Names) → None ≡ advice_parts st (all_pairs users subtrees)
    → None ≡ settled_parts st users subtrees
nothing_settled st users subtrees none =
    by_test (are_held st users subtrees) ∙ ap (λ parts. cond (are_held st users subtrees) None parts) none
  where
    by_test : (held : Bool) → let parts : Option (List Let × List Raised) = None in parts ≡ cond held None None
    by_test true = refl
    by_test false = refl

-- of pairs, each as it is named
abbrev pub paired_json_report : State → List Identity → List Names → Report
paired_json_report st users subtrees = advice_json_report st subtrees (paired users subtrees)

paired_takes : (st : State) (users : List Identity) (subtrees : List Names)
    → takes_memory (paired_json_report st users subtrees).ending ≡ true
paired_takes st users subtrees = advice_takes st subtrees (paired users subtrees)

of_lists : (tree : Reading) (pairs : List PairIds) → advise_pairs_json_report tree (map pair_given pairs)
    ≡ named_report paired_json_report tree (map (λ pair. (pair_given pair).0) pairs) (map (λ pair. (pair_given pair).1) pairs)
of_lists tree pairs =
    λ i.
    named_report paired_json_report tree (mapped_again (λ pair. pair.0) pair_given pairs i)
    (mapped_again (λ pair. pair.1) pair_given pairs i)

pub advised_said : (tree : Reading) (pairs : List PairIds) (old new : Option (List ℕ)) (result : Result ℕ CliFault)
    → PairsReport AdvisesNamedAsJson tree (map (λ pair. (pair_given pair).0) pairs) (map (λ pair. (pair_given pair).1) pairs) old new result
    → Reports (advise_pairs_json_report tree (map pair_given pairs)) old new result
advised_said tree pairs old new result said =
    let given = map (λ pair. (pair_given pair).0) pairs in
    let texts = map (λ pair. (pair_given pair).1) pairs in
    subst (λ (r : Report). Reports r old new result) (sym (of_lists tree pairs))
    (by_read (named_read given texts tree) (λ users subtrees st. named_read given texts tree ≡ Ok (users, subtrees, st)) AdvisesNamedAsJson
    (Reports (named_report paired_json_report tree given texts))
    (λ fault met known. fault_said paired_json_report paired_takes tree given texts fault met known (Err fault) refl)
    (λ users subtrees st is old new result advises.
    subst (λ (r : Report). Reports r old new result)
    (sym (said_of_read paired_json_report paired_takes tree given texts users subtrees st is)) advises.0)
    old new result said)

-- ---- they end as those of lines

pub same_ending : {A B : Type 0} (read : Result A CliFault) (one other : A → Said B) → ((x : A) → (one x).ending ≡ (other x).ending)
    → (report_on read one).ending ≡ (report_on read other).ending
same_ending (Ok x) one other same = same x
same_ending (Err fault) one other same = refl

pub check_ending : (tree : Reading) (uid : ℕ) (gids subtree : List ℕ)
    → (check_json_report tree uid gids subtree).ending ≡ (check_report tree uid gids subtree).ending
check_ending tree uid gids subtree =
    same_ending (user_read uid gids)
    (λ user. report_on (path_read subtree) (λ path. report_on (tree_read tree) (λ st. subtree_json_report st user path)))
    (λ user. report_on (path_read subtree) (λ path. report_on (tree_read tree) (λ st. subtree_report st user path))) (λ user.
    same_ending (path_read subtree) (λ path. report_on (tree_read tree) (λ st. subtree_json_report st user path))
    (λ path. report_on (tree_read tree) (λ st. subtree_report st user path)) (λ path.
    same_ending (tree_read tree) (λ st. subtree_json_report st user path) (λ st. subtree_report st user path) (λ st.
    same_ending (in_call (checked st user path)) (answer_json_report path) (answer_report path) (λ found. refl))))

pub audit_ending : (tree : Reading) (given : List (ℕ × List ℕ)) (texts : List (List ℕ))
    → (audit_json_report tree given texts).ending ≡ (audit_report tree given texts).ending
audit_ending tree given texts =
    same_ending (users_read given)
    (λ users. report_on (paths_read texts) (λ paths. report_on (tree_read tree) (λ st.
    pairs_json_report st (once same_user users) (once same_path paths))))
    (λ users. report_on (paths_read texts) (λ paths. report_on (tree_read tree) (λ st. pairs_report st users paths))) (λ users.
    same_ending (paths_read texts)
    (λ paths. report_on (tree_read tree) (λ st. pairs_json_report st (once same_user users) (once same_path paths)))
    (λ paths. report_on (tree_read tree) (λ st. pairs_report st users paths)) (λ paths.
    same_ending (tree_read tree) (λ st. pairs_json_report st (once same_user users) (once same_path paths))
    (λ st. pairs_report st users paths) (λ st. of_pairs st users paths)))
  where
    of_pairs : (st : State) (users : List Identity) (paths : List Names)
        → (pairs_json_report st (once same_user users) (once same_path paths)).ending ≡ (pairs_report st users paths).ending
    of_pairs st users paths =
        same_ending (in_call (all_checked st (once same_user users) (once same_path paths)))
        (audit_json_answer (once same_user users) (once same_path paths))
        (audit_answer_report (once same_user users) (once same_path paths)) (λ found. refl)
        ∙ ap (λ (report : Report). report.ending) (said_once st users paths)

pub may_ending : (tree : Reading) (uid : ℕ) (gids : List ℕ) (pid : ℕ) (to : List ℕ)
    → (may_json_report tree uid gids pid to).ending ≡ (may_report tree uid gids pid to).ending
may_ending tree uid gids pid to =
    same_ending (user_read uid gids)
    (λ user. report_on (pid_read pid) (λ number. report_on (path_read to) (λ path. report_on (tree_read tree) (λ st.
    move_json_report st user number path))))
    (λ user. report_on (pid_read pid) (λ number. report_on (path_read to) (λ path. report_on (tree_read tree) (λ st.
    move_report st user number path)))) (λ user.
    same_ending (pid_read pid)
    (λ number. report_on (path_read to) (λ path. report_on (tree_read tree) (λ st. move_json_report st user number path)))
    (λ number. report_on (path_read to) (λ path. report_on (tree_read tree) (λ st. move_report st user number path))) (λ number.
    same_ending (path_read to) (λ path. report_on (tree_read tree) (λ st. move_json_report st user number path))
    (λ path. report_on (tree_read tree) (λ st. move_report st user number path)) (λ path.
    same_ending (tree_read tree) (λ st. move_json_report st user number path) (λ st. move_report st user number path) (λ st. refl))))

-- of users and subtrees that are read in turn
named_ending : (one other : State → List Identity → List Names → Report)
    → ((st : State) (users : List Identity) (subtrees : List Names) → (one st users subtrees).ending ≡ (other st users subtrees).ending)
    → (tree : Reading) (given : List (ℕ × List ℕ)) (texts : List (List ℕ))
    → (named_report one tree given texts).ending ≡ (named_report other tree given texts).ending
named_ending one other same tree given texts =
    same_ending (users_read given)
    (λ users. report_on (paths_read texts) (λ paths. report_on (tree_read tree) (λ st. one st users paths)))
    (λ users. report_on (paths_read texts) (λ paths. report_on (tree_read tree) (λ st. other st users paths))) (λ users.
    same_ending (paths_read texts) (λ paths. report_on (tree_read tree) (λ st. one st users paths))
    (λ paths. report_on (tree_read tree) (λ st. other st users paths)) (λ paths.
    same_ending (tree_read tree) (λ st. one st users paths) (λ st. other st users paths) (λ st. same st users paths)))

parts_ending : (guarded : Bool) (parts : List Let × List Raised) (lines : List ℕ)
    → (parts_report (cond guarded None (Some parts))).ending ≡ (lines_report (cond guarded None (Some lines))).ending
parts_ending true parts lines = refl
parts_ending false parts lines = refl

advice_ending : (st : State) (subtrees : List Names) (pairs : List Pair)
    → (advice_json_report st subtrees pairs).ending ≡ (advice_report st subtrees pairs).ending
advice_ending st subtrees pairs = by_fault (first (flat_map (subtree_faults st) subtrees))
  where
    by_fault : (fault : Option CheckFault)
        → (report_on (in_call (unless_fault fault (advice_parts st pairs))) parts_report).ending
        ≡ (report_on (in_call (unless_fault fault (advice_lines st pairs))) lines_report).ending
    by_fault None = parts_ending (list_all (is_pair_guarded st) pairs) (parts_of st pairs) (pairs_lines st pairs)
    by_fault (Some fault) = refl

pub advise_ending : (tree : Reading) (given : List (ℕ × List ℕ)) (texts : List (List ℕ))
    → (advise_json_report tree given texts).ending ≡ (advise_report tree given texts).ending
advise_ending tree given texts =
    named_ending
    (λ st users subtrees. advice_json_report st (once same_path subtrees) (all_pairs (once same_user users) (once same_path subtrees)))
    (λ st users subtrees. advice_report st (once same_path subtrees) (all_pairs (once same_user users) (once same_path subtrees)))
    (λ st users subtrees. advice_ending st (once same_path subtrees) (all_pairs (once same_user users) (once same_path subtrees)))
    tree given texts

pub advise_pairs_ending : (tree : Reading) (given : List ((ℕ × List ℕ) × List ℕ))
    → (advise_pairs_json_report tree given).ending ≡ (advise_pairs_report tree given).ending
advise_pairs_ending tree given =
    named_ending paired_json_report (λ st users subtrees. advice_report st subtrees (paired users subtrees))
    (λ st users subtrees. advice_ending st subtrees (paired users subtrees)) tree (map (λ pair. pair.0) given) (map (λ pair. pair.1) given)

settled_ending : (st : State) (users : List Identity) (subtrees : List Names)
    → (settled_json_report st users subtrees).ending ≡ (settled_report st users subtrees).ending
settled_ending st users subtrees = by_fault (first (flat_map (subtree_faults st) subtrees)) (are_held st users subtrees)
  where
    by_fault : (fault : Option CheckFault) (held : Bool)
        → (report_on (in_call (unless_fault fault (cond held None (advice_parts st (all_pairs users subtrees))))) parts_report).ending
        ≡ (report_on (in_call (unless_fault fault (cond held None (advice_lines st (all_pairs users subtrees))))) lines_report).ending
    by_fault None true = refl
    by_fault None false =
        let pairs = all_pairs users subtrees in
        parts_ending (list_all (is_pair_guarded st) pairs) (parts_of st pairs) (pairs_lines st pairs)
    by_fault (Some fault) held = refl

pub advise_settled_ending : (tree : Reading) (given : List (ℕ × List ℕ)) (texts : List (List ℕ))
    → (advise_settled_json_report tree given texts).ending ≡ (advise_settled_report tree given texts).ending
advise_settled_ending tree given texts =
    named_ending (λ st users subtrees. settled_json_report st (once same_user users) (once same_path subtrees))
    (λ st users subtrees. settled_report st (once same_user users) (once same_path subtrees))
    (λ st users subtrees. settled_ending st (once same_user users) (once same_path subtrees)) tree given texts
