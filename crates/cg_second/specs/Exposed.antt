-- The tests of the second row, as they are made of one cgroup after another.
use Rattle.std.specs.Prelude.{ℕ, zero, suc, ◌-◌, Bool, false, ◌&&◌, ◌||◌, not, cond, List, length, take}
use Rattle.std.specs.List.{list_all}
use Rattle.cg_cgroup.specs.Paths.{Names, parent, inside, common}
use Rattle.cg_cgroup.specs.Identity.{Identity}
use Rattle.cg_cgroup.specs.Files.{all_controllers, enables}
use Rattle.cg_cgroup.specs.declared.files.Controller.{Controller}
use Rattle.cg_cgroup.specs.declared.files.LimitFile.TheVariants.{MaxDescendants, MaxDepth}
use Rattle.cg_cgroup.specs.declared.files.EntryName.TheVariants.{Procs, SubtreeControl}
use Rattle.cg_model.specs.States.{State}
use Rattle.cg_model.specs.WellFormed.{enabled_at}
use Rattle.cg_model.specs.Limits.{fits_descendants, fits_depth}
use Rattle.cg_second.specs.Lasting.{is_reached, lasting_below}
use Rattle.cg_second.specs.Greatest.{greatest}
use Rattle.cg_second.specs.Judged.{is_bound, takes_none, grows_none, spares_files, is_closed_to}

-- a move may pass one of the first so many cgroups of a path
abbrev pub is_passed_to : State → List Identity → Names → ℕ → Bool
is_passed_to st users subtree zero = false
is_passed_to st users subtree (suc len) = is_reached st users (take len subtree) Procs || is_passed_to st users subtree len

-- a move may lead over the edge of the subtree to or from here
abbrev pub is_exposed : State → List Identity → Names → Names → Bool
is_exposed st users subtree path =
    cond (inside subtree path) (is_passed_to st users subtree (length subtree)) (is_reached st users (common subtree path) Procs)

-- the controller stays off at so many first cgroups of a path, as long as these stay
abbrev pub is_off_to : State → List Identity → Names → Controller → ℕ → Bool
is_off_to st users path controller zero = not (enables st.controllers controller)
is_off_to st users path controller (suc len) =
    not (enables (enabled_at st (take len path)) controller)
    && (not (is_reached st users (take len path) SubtreeControl) || is_off_to st users path controller len)

-- there are as many below it as it may have, of those that stay
abbrev pub is_crowded : State → List Identity → Names → Bool
is_crowded st users path = is_bound st users path MaxDescendants (lasting_below st (greatest st users) path)

-- one of so many first cgroups of a path allows no more levels below the path
abbrev pub is_deep_to : State → List Identity → Names → ℕ → Bool
is_deep_to st users path zero = false
is_deep_to st users path (suc len) =
    is_bound st users (take len path) MaxDepth (length path - len) || is_deep_to st users path len

-- a move may not lead here, or nobody moves a process here or makes a cgroup here
abbrev pub is_shut_or_apart : State → List Identity → Names → Names → Bool
is_shut_or_apart st users subtree path =
    not (is_exposed st users subtree path)
    || (takes_none st users (greatest st users) path && grows_none st users (greatest st users) path)

-- none of the users reaches a limit file of a subtree that is within its own limits
abbrev pub keeps_limits : State → List Identity → Names → Bool
keeps_limits st users subtree =
    spares_files st users subtree && (fits_descendants st subtree && fits_depth st subtree)

-- a subtree stays, with what its parent enables, and nothing gets over its edge
abbrev pub is_shut_in : State → List Identity → Names → Bool
is_shut_in st users subtree =
    (greatest st users).stays subtree
    && (list_all (λ controller. (greatest st users).on (parent subtree) controller || (greatest st users).off (parent subtree) controller)
    all_controllers && is_closed_to st users (greatest st users) subtree (length subtree))
