-- What a cgroup of a well-formed tree enables, the root has.
use Rattle.std.proofs.Common.{◌≡◌, ℕ, ◌≤◌, zero, suc, true, [], ◌∷◌, length, Some, None, is_some, refl, sym, ap, ◌∙◌, arith}
use Rattle.cg_cgroup.specs.Paths.{Names, parent}
use Rattle.cg_cgroup.specs.Files.{enables, no_controllers, is_within}
use Rattle.cg_cgroup.specs.declared.files.Controller.{Controller}
use Rattle.cg_cgroup.specs.declared.cgroup.Cgroup.{Cgroup}
use Rattle.cg_cgroup.proofs.PathParents.{length-parent}
use Rattle.cg_cgroup.proofs.Options.{some_value}
use Rattle.cg_cgroup.proofs.ControllerLaws.{is_within-enables}
use Rattle.cg_model.specs.States.{State, row_at}
use Rattle.cg_model.specs.WellFormed.{IsWellFormed}

module _ (st : State) (formed : IsWellFormed st) (controller : Controller) where
  has_within : (most : ℕ) (path : Names) (row : Cgroup) → length path ≤ most → row_at st path ≡ Some row
      → enables row.enabled controller ≡ true → enables st.controllers controller ≡ true
  has_within most [] row short is on = is_within-enables row.enabled st.controllers (formed.top_down [] row is) controller on
  has_within zero (name ∷ names) row short is on = absurd (omega (arith, short))
  has_within (suc most) (name ∷ names) row short is on =
      let above = some_value (row_at st (parent (name ∷ names))) (formed.parents (name ∷ names) (ap is_some is)) in
      let within : is_within row.enabled above.0.enabled ≡ true =
      sym (ap (λ found. is_within row.enabled (elim found [ None ↦ no_controllers | Some r ↦ r.enabled ])) above.1)
      ∙ formed.top_down (name ∷ names) row is in
      let fewer = length-parent (name ∷ names) refl in
      has_within most (parent (name ∷ names)) above.0 (omega (arith, fewer, short)) above.1
      (is_within-enables row.enabled above.0.enabled within controller on)

  pub root_has : (path : Names) (row : Cgroup) → row_at st path ≡ Some row → enables row.enabled controller ≡ true
      → enables st.controllers controller ≡ true
  root_has path row is on = has_within (length path) path row (omega arith) is on
