-- Who breaks a subtree whose guards hold for some users: another.
use Rattle.std.proofs.Common.{◌≡◌, ◌≢◌, ℕ, true, false, List, [], ◌∷◌, refl, sym, ◌∙◌, true≢false}
use Rattle.std.specs.List.{Contains}
use Rattle.cg_cgroup.specs.Paths.{Names}
use Rattle.cg_cgroup.specs.Identity.{Identity}
use Rattle.cg_model.specs.States.{State}
use Rattle.cg_model.specs.WellFormed.{IsWellFormed}
use Rattle.cg_model.specs.Bars.{bars}
use Rattle.cg_model.specs.Steps.{after, Deed}
use Rattle.cg_model.specs.declared.operation.Op.{Op}
use Rattle.cg_model.specs.Limits.{limits}
use Rattle.cg_model.specs.Guards.{sets_guarded_mode, IsSubtree}
use Rattle.cg_model.specs.Strangers.{OpensGuarded, GuardsHoldForAll, OnlyTheseOpen, IsOfStranger}
use Rattle.cg_laws.proofs.Steps.{untouched-unopened}
use Rattle.cg_model.specs.Verdicts.{verdict}
use Rattle.cg_model.specs.declared.verdict.Clause.{Clause}
use Rattle.cg_model.specs.declared.verdict.Verdict.TheVariants.{Broken}
use Rattle.cg_model.proofs.BrokenLaws.{IsWhole}
use Rattle.cg_laws.proofs.RunLaws.{IsGuarded, guarded-start, guarded-on, guarded-barred, guarded-own, step-own, whole-still, a_member}
use Rattle.cg_laws.proofs.Ways.{OnlyThese, broken-on_way}

module _ (users : List Identity) (start : State) (subtree : Names) where
  -- a step that breaks nothing leaves the guards, where only these users open them
  guarded-any : (st : State) → IsGuarded users start st subtree → (user : Identity) (op : Op)
      → (OpensGuarded st user op subtree → Contains users user)
      → IsWhole (limits start subtree) st (after st user op) subtree → IsGuarded users start (after st user op) subtree
  guarded-any st at user op opens whole =
      elim (bars st user op) as (λ found. bars st user op ≡ found → IsGuarded users start (after st user op) subtree) [
        | [] ↦
            λ free. elim (sets_guarded_mode subtree op) as
            (λ sets. sets_guarded_mode subtree op ≡ sets → IsGuarded users start (after st user op) subtree) [
              | true ↦ λ sets. guarded-own users start subtree st at user (opens (free, sets)) op
              | false ↦
                  λ sets. guarded-on users start subtree st at user op (untouched-unopened st user subtree op at.sound at.is whole.there
                  (whole.limits ∙ sym at.limits) (λ both. true≢false (sym both.1 ∙ sets))) whole
            ] refl
        | bar ∷ others ↦ λ is. guarded-barred users start subtree st at user op bar others is
      ] refl

only_these : (users : List Identity) (st : State) (deeds : List Deed) (subtree : Names) → OnlyTheseOpen users st deeds subtree
    → OnlyThese (λ s user op. OpensGuarded s user op subtree) users st deeds
only_these users st [] subtree only = tt
only_these users st (deed ∷ deeds) subtree only = (only.0, only_these users (after st deed.0 deed.1) deeds subtree only.1)

pub broken-of_stranger : (st : State) (users : List Identity) (subtree : Names) (deeds : List Deed) (steps : ℕ) (clause : Clause)
    → IsWellFormed st → IsSubtree st subtree → users ≢ [] → GuardsHoldForAll st users subtree
    → OnlyTheseOpen users st deeds subtree → verdict st deeds subtree ≡ Broken steps clause → IsOfStranger users deeds steps
broken-of_stranger st users subtree deeds steps clause formed is some guards opens h =
    let at = guarded-start users st subtree formed is guards in
    let one = a_member users some in
    broken-on_way users st subtree (λ s. IsGuarded users st s subtree) (step-own users st subtree)
    (λ s user op. OpensGuarded s user op subtree) (guarded-any users st subtree) at (whole-still users st subtree st at one.0 one.1) deeds
    (only_these users st deeds subtree opens) steps clause h
