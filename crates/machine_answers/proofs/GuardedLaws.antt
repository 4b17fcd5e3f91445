-- Of what `check` says `contained`.
use Rattle.std.proofs.Common.{◌≡◌, ℕ, Bool, true, false, cond, nat_eq, List, codes, Option, Some, None, Ok, Err, refl, ap, ap₂, sym, ◌∙◌, subst}
use Rattle.std.specs.Option.{ok_or}
use Rattle.std.proofs.lemmas.Bool.{eqb-true}
use Rattle.cg_cgroup.specs.Paths.{Names, path_at}
use Rattle.cg_cgroup.specs.Users.{user_of}
use Rattle.cg_cgroup.specs.Identity.{Identity}
use Rattle.cg_cgroup.proofs.Options.{same_some}
use Rattle.cg_model.specs.States.{State}
use Rattle.cg_model.specs.Clauses.{first}
use Rattle.cg_model.specs.Held.{by_user, IsContained}
use Rattle.cg_model.specs.Throughout.{IsHeldThroughout}
use Rattle.cg_model.specs.Guards.{IsSubtree}
use Rattle.cg_model.specs.Escapes.{first_escape}
use Rattle.cg_model.specs.Answers.{answer_from, answer}
use Rattle.cg_model.specs.Checks.{subtree_faults, unless_fault, checked}
use Rattle.cg_model.specs.declared.answer.Answer.{Answer}
use Rattle.cg_model.specs.declared.answer.Answer.TheVariants.{Contained, Escapes, Unsettled}
use Rattle.cg_model.specs.declared.fault.CheckFault.{CheckFault}
use Rattle.cg_model.specs.declared.operation.Op.{Op}
use Rattle.cg_format.specs.Readings.{Reading, IsReading}
use Rattle.cg_format.specs.TextOf.{IsTextOf}
use Rattle.cg_format.proofs.OneState.{one_state}
use Rattle.cg_format.proofs.ReadingLaws.{one_reading}
use Rattle.cg_laws.proofs.RunLaws.{contained-guarded}
use Rattle.cg_laws.proofs.ThroughoutLaws.{contained-is_throughout}
use Rattle.cg_check.proofs.Checking.{no_fault, answer-guarded}
use Rattle.cg_cli.specs.Arguments.{user_read, path_read}
use Rattle.cg_cli.specs.Containment.{in_call, answer_status, answer_report, subtree_report, check_report}
use Rattle.cg_cli.specs.May.{tree_read}
use Rattle.cg_cli.specs.Reports.{report_on}
use Rattle.cg_faults.specs.declared.fault.CliFault.TheVariants.{Uid, Gids, BadPath}
use Rattle.cg_cli.proofs.CheckReports.{report_is}
use Rattle.cg_escapes.proofs.EscapeReplays.{report_ok, found_is, status_is, unfaulted}
use Rattle.machine_answers.specs.Guarded.{NamesGuarded}

-- ---- what was read, and what words name

pub user_named : (root : Bool) (found : Option Identity) (user : Identity) → cond root (Err Uid) (ok_or found Gids) ≡ Ok user
    → found ≡ Some user
user_named true found user is = let never : ⊥ = cc in absurd never
user_named false None user is = let never : ⊥ = cc in absurd never
user_named false (Some one) user is = let same : one ≡ user = cc in ap Some same

pub path_named : (found : Option Names) (path : Names) → ok_or found BadPath ≡ Ok path → found ≡ Some path
path_named None path is = let never : ⊥ = cc in absurd never
path_named (Some one) path is = let same : one ≡ path = cc in ap Some same

pub named_read : (uid : ℕ) (gids : List ℕ) (user : Identity) → user_of uid gids ≡ Some user → user_read uid gids ≡ Ok user
named_read uid gids user is = by_uid (nat_eq uid 0) refl
  where
    nobody : uid ≡ 0 → ⊥
    nobody root = let none : user_of 0 gids ≡ Some user = subst (λ n. user_of n gids ≡ Some user) root is in cc

    by_uid : (root : Bool) → nat_eq uid 0 ≡ root → user_read uid gids ≡ Ok user
    by_uid true same = absurd (nobody (eqb-true uid 0 same))
    by_uid false same =
        ap₂ (λ (root : Bool) (found : Option Identity). cond root (Err Uid) (ok_or found Gids)) same is

pub state_read : (tree : Reading) (st : State) → tree_read tree ≡ Ok st → tree ≡ Ok st
state_read (Ok one) st is = let same : one ≡ st = cc in ap Ok same
state_read (Err fault) st is = let never : ⊥ = cc in absurd never

zero_status : (found : Answer) → answer_status found ≡ 0 → found ≡ Contained
zero_status Contained is = refl
zero_status (Escapes ops) is = cc
zero_status (Unsettled failed) is = cc

no_faults : (st : State) (subtree : Names) → IsSubtree st subtree → first (subtree_faults st subtree) ≡ None
no_faults st subtree there = rw (there.1, there.0) refl

-- ---- a text, and what is asked of it

module _ (text : List ℕ) (uid : ℕ) (gids word : List ℕ) where
  pub contained_as_named : (st : State) (user : Identity) (subtree : Names) → NamesGuarded text uid gids word → IsTextOf st text
      → user_of uid gids ≡ Some user → path_at word ≡ Some subtree → IsContained st user subtree
  contained_as_named st user subtree named of_text of_user of_path =
      let holds =
      contained-guarded named.state named.user named.subtree named.read.says.formed named.there named.guarded in
      let a : named.state ≡ st = one_state text named.state st named.read of_text in
      let b : named.user ≡ user = same_some named.user user (sym named.named ∙ of_user) in
      let c : named.subtree ≡ subtree = same_some named.subtree subtree (sym named.path ∙ of_path) in
      subst (λ s. IsContained s user subtree) a
      (subst (λ u. IsContained named.state u subtree) b (subst (IsContained named.state named.user) c holds))

  module _ (tree : Reading) (reading : IsReading text tree) where
    pub guarded_by_status : (check_report tree uid gids word).ending ≡ Ok 0 → NamesGuarded text uid gids word
    guarded_by_status is =
        let user =
        report_ok (user_read uid gids)
        (λ user. report_on (path_read word) (λ path. report_on (tree_read tree) (λ st. subtree_report st user path))) 0 is in
        let path = report_ok (path_read word) (λ path. report_on (tree_read tree) (λ st. subtree_report st user.0 path)) 0 user.2 in
        let state = report_ok (tree_read tree) (λ st. subtree_report st user.0 path.0) 0 path.2 in
        let one = report_ok (in_call (checked state.0 user.0 path.0)) (answer_report path.0) 0 state.2 in
        let contained = zero_status one.0 (status_is (answer_status one.0) 0 one.2) in
        let stated =
        unfaulted (first (subtree_faults state.0 path.0)) (answer state.0 user.0 path.0) Contained
        (found_is (checked state.0 user.0 path.0) one.0 one.1 ∙ ap Ok contained) in
        record {
          user = user.0;
          subtree = path.0;
          state = state.0;
          named = user_named _ (user_of uid gids) user.0 user.1;
          path = path_named (path_at word) path.0 path.1;
          read = subst (IsReading text) (state_read tree state.0 state.1) reading;
          there = no_fault state.0 path.0 (sym stated.0);
          guarded = answer-guarded state.0 user.0 path.0 stated.1;
        }

    pub contained_report : NamesGuarded text uid gids word
        → check_report tree uid gids word ≡ record { text = codes "contained\n"; ending = Ok 0 }
    contained_report named =
        let st = named.state in
        let user = named.user in
        let path = named.subtree in
        report_is tree uid gids word user path st (named_read uid gids user named.named)
        (ap (λ (found : Option Names). ok_or found BadPath) named.path) (one_reading text tree (Ok st) reading named.read)
        ∙ ap (λ (fault : Option CheckFault). report_on (in_call (unless_fault fault (answer st user path))) (answer_report path))
        (no_faults st path named.there)
        ∙ ap (λ failed. report_on (in_call (unless_fault None (answer_from failed (first_escape st user path)))) (answer_report path))
        named.guarded

-- ---- by the status

module _ (text : List ℕ) (st : State) (uid : ℕ) (gids : List ℕ) (user : Identity) (word : List ℕ) (subtree : Names)
    (of_text : IsTextOf st text) (of_user : user_of uid gids ≡ Some user) (of_path : path_at word ≡ Some subtree)
    (is : (check_report (Ok st) uid gids word).ending ≡ Ok 0) where
  pub contained_by_status : IsContained st user subtree
  contained_by_status =
      contained_as_named text uid gids word st user subtree (guarded_by_status text uid gids word (Ok st) of_text is) of_text of_user
      of_path

  pub throughout_by_status : (ops : List Op) → IsHeldThroughout st (by_user user ops) subtree
  throughout_by_status = (contained-is_throughout st user subtree).0 contained_by_status
