-- How an answer is found: nobody has to believe it.
-- Which entries of a subtree let somebody in, one after another.
use Rattle.std.specs.Prelude.{◌≡◌, ℕ, zero, suc, Bool, false, cond, List, [], ◌∷◌, ◌++◌, length, Option, Some, None, option_and_then, slice_get}
use Rattle.std.specs.Borrow.{Bor}
use Rattle.std.specs.List.{flat_map}
use Rattle.cg_cgroup.specs.Paths.{Names}
use Rattle.cg_cgroup.specs.declared.user.Entry.{Entry}
use Rattle.cg_model.specs.Clauses.{present}
use Rattle.cg_model.specs.Guards.{ancestor, guarded_entries, guarded_entry, standing}
use Rattle.cg_model.specs.States.{State}
use Rattle.cg_advice.specs.AdviceLines.{fails_line}
use Rattle.cg_advice.specs.WayLines.{Spot}
use Rattle.machine_everybody.specs.Everybody.{Everybody, lets_anybody_in}
use Rattle.cg_everybody.specs.Everybody.{entered_by, classes_in}
use Rattle.cg_everybody.specs.declared.entrance.Entrance.{Entrance}
use Rattle.cg_everybody.specs.declared.walk.Walk.{Walk}

-- that of a place in the order of the guards
abbrev pub entrance_at : State → Everybody → Names → ℕ → List Spot
entrance_at st asked subtree place =
    present (option_and_then (standing st subtree) (slice_get (guarded_entries subtree) place)) (entered_by asked subtree)

abbrev pub entrance_spot : Entrance → Spot
entrance_spot each = (each.subtree.now, each.at)

-- a line for each class that such an entry lets in
abbrev pub class_lines : Everybody → Spot → List ℕ
class_lines asked spot = flat_map (fails_line spot.0 spot.1) (classes_in asked spot.1.entry)

abbrev pub opens : Everybody → Option Entry → Bool
opens asked None = false
opens asked (Some entry) = lets_anybody_in asked entry

-- the `cgroup.procs` of the first `len` names of a path lets somebody in
abbrev pub is_door : State → Everybody → Names → ℕ → Bool
is_door st asked path len = opens asked (guarded_entry st path (ancestor len))

-- of the first cgroups of a path those that have such a one, by their depths, the root first
abbrev pub doors : State → Everybody → Names → ℕ → List ℕ
doors st asked path zero = []
doors st asked path (suc len) = doors st asked path len ++ cond (is_door st asked path len) (len ∷ []) []

-- those above a path, where there is one
abbrev pub AreDoorsAbove : State → Everybody → Option (Bor Names) → List ℕ → Type 0
AreDoorsAbove st asked None lens = lens ≡ []
AreDoorsAbove st asked (Some last) lens = lens ≡ doors st asked last.now (length last.now)

-- What is kept of the last subtree of a walk: those above it.
abbrev pub IsWalked : State → Everybody → Walk → Type 0
IsWalked st asked walk = AreDoorsAbove st asked walk.last walk.doors.items
