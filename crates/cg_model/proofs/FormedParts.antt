-- Well-formedness from its parts, and what of it a change of rows leaves as it was.
use Rattle.std.proofs.Common.{◌≡◌, true, false, ◌||◌, refl, sym, ap, ◌∙◌, true≢false, Some, None}
use Rattle.cg_cgroup.specs.Paths.{Names, is_root}
use Rattle.cg_cgroup.specs.Files.{no_controllers, enables_nothing}
use Rattle.cg_model.specs.States.{State, row_at}
use Rattle.cg_model.specs.WellFormed.{enabled_at, may_hold}
use Rattle.cg_cgroup.specs.declared.cgroup.Cgroup.{Cgroup}

-- a cgroup that may hold processes is there
pub may_hold-row : (st : State) (path : Names) → may_hold st path ≡ true
    → (row : Cgroup) × (row_at st path ≡ Some row) × ((is_root path || enables_nothing row.enabled) ≡ true)
may_hold-row st path h =
    elim (row_at st path) as (λ r. row_at st path ≡ r
    → elim r [ None ↦ false | Some row ↦ is_root path || enables_nothing row.enabled ] ≡ true
    → (row : Cgroup) × (row_at st path ≡ Some row) × ((is_root path || enables_nothing row.enabled) ≡ true)) [
      | None ↦ λ is h. absurd (true≢false (sym h))
      | Some row ↦ λ is h. (row, is, h)
    ] refl h

pub row-may_hold : (st : State) (path : Names) (row : Cgroup) → row_at st path ≡ Some row
    → (is_root path || enables_nothing row.enabled) ≡ true → may_hold st path ≡ true
row-may_hold st path row is h = ap (λ r. elim r [ None ↦ false | Some row ↦ is_root path || enables_nothing row.enabled ]) is ∙ h

pub enabled_at-row : (st : State) (path : Names) (row : Cgroup) → row_at st path ≡ Some row → enabled_at st path ≡ row.enabled
enabled_at-row st path row is = ap (λ r. elim r [ None ↦ no_controllers | Some row ↦ row.enabled ]) is
