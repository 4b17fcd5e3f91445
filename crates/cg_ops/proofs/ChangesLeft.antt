-- The refusals of the changes of controllers, one controller after another.
use Rattle.std.proofs.Common.{◌≡◌, ◌≤◌, ℕ, Bool, List, Option, length, sym, ap, ◌∙◌}
use Rattle.cg_cgroup.specs.Paths.{Names}
use Rattle.cg_cgroup.specs.Kinds.{all_controllers}
use Rattle.cg_cgroup.specs.declared.cgroup.Cgroup.{Cgroup}
use Rattle.cg_cgroup.specs.declared.files.Controller.{Controller}
use Rattle.cg_model.specs.States.{State}
use Rattle.cg_model.specs.Changes.{effective}
use Rattle.cg_model.specs.Clauses.{unless, first}
use Rattle.cg_model.specs.Bars.{change_bars, may_enable_new}
use Rattle.cg_model.specs.declared.changes.Change.{Change}
use Rattle.cg_model.specs.declared.outcome.Refusal.{Refusal}
use Rattle.cg_model.specs.declared.outcome.Refusal.TheVariants.{InternalProcess}
use Rattle.cg_ops.proofs.FirstOfMapped.{from_place, none_left}

module _ (st : State) (at : Names) (changes : List Change) (row : Cgroup) where
  abbrev pub barred_by : Controller → List Refusal
  barred_by controller = change_bars st at row controller (effective changes controller)

  abbrev pub internal : List Refusal
  internal = unless (may_enable_new st at row changes) (InternalProcess (length at))

  abbrev pub refusal_from : ℕ → Option Refusal
  refusal_from place = from_place barred_by internal all_controllers place

  -- behind the last controller the processes of the cgroup are asked
  pub last_asked : (place : ℕ) (may : Bool) → length all_controllers ≤ place → may ≡ may_enable_new st at row changes
      → first (unless may (InternalProcess (length at))) ≡ refusal_from place
  last_asked place may all is =
      ap (λ may. first (unless may (InternalProcess (length at)))) is ∙ sym (none_left barred_by internal all_controllers place all)
