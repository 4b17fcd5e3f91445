-- What a check says, from the faults of its subtree and the guards.
use Rattle.std.proofs.Common.{◌≡◌, Bool, true, false, not, List, [], ◌∷◌, refl, sym, ap, ◌∙◌, Option, Some, None, Result, Ok, Err, IfOk, IfErr}
use Rattle.cg_cgroup.specs.Paths.{Names, is_root}
use Rattle.cg_cgroup.specs.Identity.{Identity}
use Rattle.cg_model.specs.States.{State}
use Rattle.cg_model.specs.WellFormed.{has_row}
use Rattle.cg_model.specs.Clauses.{first}
use Rattle.cg_model.specs.declared.operation.Op.{Op}
use Rattle.cg_model.proofs.ClauseLaws.{no_parts, no_unless, none_of_first}
use Rattle.cg_model.specs.Guards.{failures, GuardsHold, IsSubtree}
use Rattle.cg_model.specs.declared.guard.Failed.{Failed}
use Rattle.cg_model.specs.declared.fault.CheckFault.{CheckFault}
use Rattle.cg_model.specs.declared.fault.CheckFault.TheVariants.{RootSubtree, NoSuchSubtree, NoMemory}
use Rattle.cg_model.specs.Escapes.{first_escape}
use Rattle.cg_model.specs.Answers.{answer_from, answer}
use Rattle.cg_model.specs.Checks.{subtree_faults, unless_fault, checked}
use Rattle.cg_check.specs.Checks.{takes_memory, Gives}
use Rattle.cg_model.specs.declared.answer.Answer.{Answer}
use Rattle.cg_model.specs.declared.answer.Answer.TheVariants.{Contained, Escapes, Unsettled}

not_true : (b : Bool) → not b ≡ true → b ≡ false
not_true true h = sym h
not_true false h = refl

pub no_fault : (st : State) (subtree : Names) → None ≡ first (subtree_faults st subtree) → IsSubtree st subtree
no_fault st subtree none =
    let parts = no_parts _ _ (none_of_first (subtree_faults st subtree) (sym none)) in (
      no_unless (has_row st subtree) NoSuchSubtree parts.1,
      not_true (is_root subtree) (no_unless (not (is_root subtree)) RootSubtree parts.0),
    )

module _ (st : State) (user : Identity) (subtree : Names) where
  pub no_failure : None ≡ first (failures st user subtree) → GuardsHold st user subtree
  no_failure none = none_of_first (failures st user subtree) (sym none)

  pub guarded-answer : GuardsHold st user subtree → answer st user subtree ≡ Contained
  guarded-answer hold = ap (λ failed. answer_from failed (first_escape st user subtree)) hold

  -- an answer is that one only where no guard fails
  pub answer-guarded : answer st user subtree ≡ Contained → GuardsHold st user subtree
  answer-guarded is =
      elim (failures st user subtree) as (λ failed. answer_from failed (first_escape st user subtree) ≡ Contained → failed ≡ []) [
        | [] ↦ λ _. refl
        | failed ∷ others ↦
            elim (first_escape st user subtree) as (λ found. answer_from (failed ∷ others) found ≡ Contained → failed ∷ others ≡ []) [
              | None ↦ λ h. cc
              | Some ops ↦ λ h. cc
            ]
      ] is

  pub checked-answer : None ≡ first (subtree_faults st subtree) → checked st user subtree ≡ Ok (answer st user subtree)
  checked-answer none = ap (λ fault. unless_fault fault (answer st user subtree)) (sym none)

  pub fails-memory : (failed : Failed) → Some failed ≡ first (failures st user subtree) → takes_memory (Ok (answer st user subtree)) ≡ true
  fails-memory failed some =
      elim (failures st user subtree) as
      (λ found. Some failed ≡ first found → takes_memory (Ok (answer_from found (first_escape st user subtree))) ≡ true) [
        | [] ↦ λ h. cc
        | x ∷ others ↦
            λ _. elim (first_escape st user subtree) as (λ found. takes_memory (Ok (answer_from (x ∷ others) found)) ≡ true)
            [ None ↦ refl | Some ops ↦ refl ]
      ] some

  pub unguarded-gives : (failed : Failed) (result : Result Answer CheckFault) → None ≡ first (subtree_faults st subtree)
      → Some failed ≡ first (failures st user subtree)
      → IfOk result (λ found. found ≡ answer st user subtree) → IfErr result (λ fault. fault ≡ NoMemory)
      → Gives takes_memory (checked st user subtree) result
  unguarded-gives failed (Ok found) none some ok err = checked-answer none ∙ ap Ok (sym ok)
  unguarded-gives failed (Err RootSubtree) none some ok err = cc
  unguarded-gives failed (Err NoSuchSubtree) none some ok err = cc
  unguarded-gives failed (Err NoMemory) none some ok err = ap takes_memory (checked-answer none) ∙ fails-memory failed some

  pub unguarded-uncontained : {P : Type 0} (failed : Failed) (result : Result Answer CheckFault)
      → Some failed ≡ first (failures st user subtree) → IfOk result (λ found. found ≡ answer st user subtree) → result ≡ Ok Contained → P
  unguarded-uncontained failed (Ok found) some ok is =
      let same : found ≡ Contained = cc in
      let hold = answer-guarded (sym ok ∙ same) in
      absurd (none_some (sym (some ∙ ap first hold)))
    where
      none_some : {x : Failed} → None ≡ Some x → ⊥
      none_some h = cc
  unguarded-uncontained failed (Err fault) some ok is = cc

module _ (st : State) (user : Identity) (subtree : Names) (failed : Failed) (some : first (failures st user subtree) ≡ Some failed) where
  by_escape : (found : Option (List Op)) → found ≡ first_escape st user subtree → answer_from (failed ∷ []) found ≡ answer st user subtree
  by_escape found is =
      ap (answer_from (failed ∷ [])) is
      ∙ elim (failures st user subtree) as (λ all. first all ≡ Some failed
      → answer_from (failed ∷ []) (first_escape st user subtree) ≡ answer_from all (first_escape st user subtree)) [
        | [] ↦ λ h. cc
        | other ∷ others ↦ λ h. let same : other ≡ failed = cc in
            elim (first_escape st user subtree) as (λ o. answer_from (failed ∷ []) o ≡ answer_from (other ∷ others) o)
            [ None ↦ ap Unsettled (sym same) | Some ops ↦ refl ]
      ] some

  pub escapes-answer : (ops : List Op) → Some ops ≡ first_escape st user subtree → Escapes ops ≡ answer st user subtree
  escapes-answer ops is = by_escape (Some ops) is

  pub unsettled-answer : None ≡ first_escape st user subtree → Unsettled failed ≡ answer st user subtree
  unsettled-answer is = by_escape None is
