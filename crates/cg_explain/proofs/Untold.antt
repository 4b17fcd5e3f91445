-- A controller that the root hasn't stays off everywhere.
use Rattle.std.proofs.Common.{◌≡◌, ℕ, zero, suc, true, false, not, List, take, None, Some, refl, sym, ap, ◌∙◌, true≢false}
use Rattle.std.proofs.lemmas.Bool.{and_from, or_right, false_from_ne_true}
use Rattle.cg_cgroup.specs.Paths.{Names}
use Rattle.cg_cgroup.specs.Identity.{Identity}
use Rattle.cg_cgroup.specs.Files.{enables, no_controllers}
use Rattle.cg_cgroup.specs.declared.files.Controller.{Controller}
use Rattle.cg_cgroup.proofs.ControllerLaws.{enables-set_by}
use Rattle.cg_model.specs.States.{State, row_at}
use Rattle.cg_model.specs.WellFormed.{IsWellFormed, enabled_at}
use Rattle.cg_model.proofs.RootControllers.{root_has}
use Rattle.cg_second.specs.Exposed.{is_off_to}

module _ (st : State) (formed : IsWellFormed st) (controller : Controller) (none : enables st.controllers controller ≡ false) where
  without : (path : Names) → enables (enabled_at st path) controller ≡ false
  without path =
      elim (row_at st path) as
      (λ found. row_at st path ≡ found → enables (elim found [ None ↦ no_controllers | Some row ↦ row.enabled ]) controller ≡ false) [
        | None ↦ λ _. enables-set_by (λ one. false) controller
        | Some row ↦ λ is.
            false_from_ne_true (enables row.enabled controller)
            (λ on. true≢false (sym (root_has st formed controller path row is on) ∙ none))
      ] refl

  pub off_everywhere : (users : List Identity) (path : Names) (len : ℕ) → is_off_to st users path controller len ≡ true
  off_everywhere users path zero = ap not none
  off_everywhere users path (suc len) =
      and_from _ _ (ap not (without (take len path))) (or_right _ _ (off_everywhere users path len))
