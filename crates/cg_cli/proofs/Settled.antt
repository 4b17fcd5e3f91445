-- What check answers is what is settled, but where a guard fails and no try breaks the subtree.
use Rattle.std.proofs.Common.{◌≡◌, true, [], ◌∷◌, None, Result, Ok, Err, sym, ap, subst, ◌∙◌}
use Rattle.cg_cgroup.specs.Paths.{Names}
use Rattle.cg_cgroup.specs.Identity.{Identity}
use Rattle.cg_model.specs.States.{State}
use Rattle.cg_model.specs.WellFormed.{IsWellFormed}
use Rattle.cg_model.specs.Clauses.{first}
use Rattle.cg_model.specs.Guards.{IsSubtree}
use Rattle.cg_model.specs.Checks.{subtree_faults, checked, unless_fault}
use Rattle.cg_model.specs.Answers.{answer}
use Rattle.cg_model.specs.Held.{IsContained}
use Rattle.cg_model.specs.declared.answer.Answer.{Answer}
use Rattle.cg_model.specs.declared.fault.CheckFault.{CheckFault}
use Rattle.cg_second.specs.Judged.{second_row}
use Rattle.cg_second.proofs.Judged.{judged}
use Rattle.cg_second.proofs.Runs.{contained-settled}
use Rattle.cg_cli.specs.Settled.{IsSettled, IsSettledFrom}

module _ (st : State) (user : Identity) (subtree : Names) where
  pub answered : (found : Answer) → first (subtree_faults st subtree) ≡ None → checked st user subtree ≡ Ok found
      → answer st user subtree ≡ found
  answered found none is = ap value ((λ i. unless_fault (sym none i) (answer st user subtree)) ∙ is)
    where
      value : Result Answer CheckFault → Answer
      value (Ok other) = other
      value (Err fault) = found

  pub settled-so : (given found : Answer) → first (subtree_faults st subtree) ≡ None → checked st user subtree ≡ Ok given
      → IsSettledFrom st user subtree given found → IsSettled st user subtree found
  settled-so given found none is so = subst (λ a. IsSettledFrom st user subtree a found) (sym (answered given none is)) so

  pub contained-row : IsWellFormed st → IsSubtree st subtree → second_row st (user ∷ []) subtree ≡ true → IsContained st user subtree
  contained-row formed is holds = contained-settled st user subtree formed is ((judged st (user ∷ []) subtree).1 holds)
