-- What is said where more is known than check tells.
use Rattle.std.proofs.Common.{◌≡◌, ℕ, List, Option, Some, None, Result, Ok, Err, refl, ap, sym, ◌∙◌, subst}
use Rattle.std.specs.Option.{ok_or}
use Rattle.cg_cgroup.specs.Paths.{Names, path_at}
use Rattle.cg_cgroup.specs.Users.{user_of}
use Rattle.cg_cgroup.specs.Identity.{Identity}
use Rattle.cg_model.specs.States.{State}
use Rattle.cg_model.specs.WellFormed.{IsWellFormed}
use Rattle.cg_model.specs.Clauses.{first}
use Rattle.cg_model.specs.Guards.{IsSubtree}
use Rattle.cg_model.specs.Held.{IsHeld, by_user, IsContained}
use Rattle.cg_model.specs.Answers.{answer}
use Rattle.cg_model.specs.Checks.{subtree_faults, unless_fault, checked}
use Rattle.cg_model.specs.declared.answer.Answer.{Answer}
use Rattle.cg_model.specs.declared.answer.Answer.TheVariants.{Contained, Escapes, Unsettled}
use Rattle.cg_model.specs.declared.fault.CheckFault.{CheckFault}
use Rattle.cg_model.specs.declared.operation.Op.{Op}
use Rattle.cg_laws.proofs.RunLaws.{contained-guarded}
use Rattle.cg_check.proofs.AnswerLaws.{escape-broken}
use Rattle.cg_check.proofs.Checking.{no_fault, answer-guarded}
use Rattle.cg_cli.specs.Arguments.{path_read}
use Rattle.cg_cli.specs.Containment.{in_call}
use Rattle.cg_cli.specs.Reports.{Report, Reports}
use Rattle.cg_cli.specs.Settled.{IsSettledFrom, IsSettled}
use Rattle.cg_cli.specs.Settling.{SaysOn, AskedSays, AskedReports, IsFurther}
use Rattle.cg_faults.specs.Faults.{lifted_check}
use Rattle.cg_faults.specs.declared.fault.CliFault.{CliFault}
use Rattle.cg_faults.specs.declared.fault.CliFault.TheVariants.{BadPath}
use Rattle.cg_cli.proofs.SettleReports.{goes_further}
use Rattle.machine_answers.proofs.GuardedLaws.{named_read}

module _ (st : State) (user : Identity) (subtree : Names) where
  contained_further : (given found : Answer) → (given ≡ Contained → IsContained st user subtree)
      → IsFurther st user subtree given found → found ≡ Contained → IsContained st user subtree
  contained_further Contained found known is same = known refl
  contained_further (Escapes ops) found known is same =
      let other : Escapes ops ≡ Contained = sym is ∙ same in
      let never : ⊥ = cc in absurd never
  contained_further (Unsettled failed) Contained known is same = is
  contained_further (Unsettled failed) (Escapes ops) known is same = let never : ⊥ = cc in absurd never
  contained_further (Unsettled failed) (Unsettled other) known is same = let never : ⊥ = cc in absurd never

  escapes_further : (given found : Answer) (ops : List Op)
      → (given ≡ Escapes ops → ¬ (IsHeld st (by_user user ops) subtree)) → IsFurther st user subtree given found
      → found ≡ Escapes ops → ¬ (IsHeld st (by_user user ops) subtree)
  escapes_further Contained found ops known is same =
      let other : Contained ≡ Escapes ops = sym is ∙ same in
      let never : ⊥ = cc in absurd never
  escapes_further (Escapes others) found ops known is same = known (sym is ∙ same)
  escapes_further (Unsettled failed) Contained ops known is same = let never : ⊥ = cc in absurd never
  escapes_further (Unsettled failed) (Escapes others) ops known is same =
      let one : others ≡ ops = cc in subst (λ list. ¬ (IsHeld st (by_user user list) subtree)) one is.1
  escapes_further (Unsettled failed) (Unsettled other) ops known is same = let never : ⊥ = cc in absurd never

-- what is said by an answer that follows from what check answers, and how that is shown
abbrev pub SaysBy : (Names → Answer → Report) → State → Identity → Names → Report → Type 0
SaysBy shown st user subtree =
    SaysOn (in_call (checked st user subtree))
    (λ given said. (found : Answer) × IsSettledFrom st user subtree given found × (said ≡ shown subtree found))

module _ (shown : Names → Answer → Report) (st : State) (user : Identity) (subtree : Names) where
  abbrev SaysAfter : Answer → Report → Type 0
  SaysAfter given said = (found : Answer) × IsSettledFrom st user subtree given found × (said ≡ shown subtree found)

  -- what is said with a status is an answer, of a subtree without a fault
  answered : (fault : Option CheckFault) (stated : Answer) (said : Report) (status : ℕ)
      → SaysOn (in_call (unless_fault fault stated)) SaysAfter said → said.ending ≡ Ok status
      → (fault ≡ None) × SaysAfter stated said
  answered None stated said status says is = (refl, says)
  answered (Some fault) stated said status says is =
      let same : ◌≡◌ {A = Result ℕ CliFault} (Err (lifted_check fault)) (Ok status) = ap (λ (r : Report). r.ending) (sym says) ∙ is in
      let never : ⊥ = cc in absurd never

  module _ (uid : ℕ) (gids word : List ℕ) (of_user : user_of uid gids ≡ Some user) (of_path : path_at word ≡ Some subtree)
      (formed : IsWellFormed st) where
    of_state : (said : Report) → AskedSays (SaysBy shown) (Ok st) uid gids word said → SaysBy shown st user subtree said
    of_state said asked =
        subst (λ p. SaysOn p (λ path. SaysBy shown st user path) said)
        (ap (λ (found : Option Names). ok_or found BadPath) of_path)
        (subst (λ u. SaysOn u (λ user. SaysOn (path_read word) (λ path. SaysBy shown st user path)) said)
        (named_read uid gids user of_user) asked)

    pub settled_as : (old new : Option (List ℕ)) (status : ℕ)
        → AskedReports (SaysBy shown) (Ok st) uid gids word old new (Ok status)
        → (found : Answer) × Reports (shown subtree found) old new (Ok status)
        × IsSettledFrom st user subtree (answer st user subtree) found
        × IsFurther st user subtree (answer st user subtree) found
        × (found ≡ Contained → IsContained st user subtree)
        × ((ops : List Op) → found ≡ Escapes ops → ¬ (IsHeld st (by_user user ops) subtree))
    settled_as old new status reported =
        let says =
        answered (first (subtree_faults st subtree)) (answer st user subtree) reported.0 status (of_state reported.0 reported.1)
        reported.2.0 in
        let there = no_fault st subtree (sym says.0) in
        let further = goes_further st user subtree formed there (answer st user subtree) says.1.0 says.1.1 in (
          says.1.0,
          subst (λ (r : Report). Reports r old new (Ok status)) says.1.2 reported.2,
          says.1.1,
          further,
          contained_further st user subtree (answer st user subtree) says.1.0
              (λ is. contained-guarded st user subtree formed there (answer-guarded st user subtree is)) further,
          λ ops. escapes_further st user subtree (answer st user subtree) says.1.0 ops (escape-broken st user subtree ops) further,
        )

-- a subtree of which settle says that it is contained is
pub settled_contained : (st : State) (user : Identity) (subtree : Names) → IsWellFormed st → IsSubtree st subtree
    → IsSettled st user subtree Contained → IsContained st user subtree
settled_contained st user subtree formed there is =
    contained_further st user subtree (answer st user subtree) Contained
    (λ guards. contained-guarded st user subtree formed there (answer-guarded st user subtree guards))
    (goes_further st user subtree formed there (answer st user subtree) Contained is) refl
