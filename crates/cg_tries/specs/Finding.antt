-- How an answer is found: nobody has to believe it.
-- How the first plain try that breaks is found without carrying tries out. Nothing in it has to be believed.
use Rattle.std.specs.Prelude.{ℕ, zero, suc, ◌+◌, ◌-◌, min, Bool, true, false, cond, not, ◌&&◌, ◌||◌, nat_le, List, [], ◌∷◌, length, take, find, Option, Some, None, is_some, option_and_then}
use Rattle.std.specs.List.{list_any}
use Rattle.std.specs.Option.{option_map, option_or}
use Rattle.cg_cgroup.specs.Paths.{Names, inside, parent, path_text}
use Rattle.cg_cgroup.specs.Identity.{Identity}
use Rattle.cg_cgroup.specs.Users.{writes}
use Rattle.cg_cgroup.specs.Files.{all_files, all_others, enables}
use Rattle.cg_cgroup.specs.declared.files.Limit.{Limit}
use Rattle.cg_cgroup.specs.declared.files.Limit.TheVariants.{Max, At}
use Rattle.cg_cgroup.specs.declared.files.LimitFile.{LimitFile}
use Rattle.cg_cgroup.specs.declared.files.Controller.{Controller}
use Rattle.cg_cgroup.specs.declared.other_file.OtherFile.{OtherFile}
use Rattle.cg_cgroup.specs.declared.told.FileText.{FileText}
use Rattle.cg_cgroup.specs.declared.user.Entry.{Entry}
use Rattle.cg_cgroup.specs.declared.cgroup.Cgroup.{Cgroup}
use Rattle.cg_model.specs.States.{State, row_at, place_at, paths_of, pids_of, count_below, value_at, file_told}
use Rattle.cg_model.specs.WellFormed.{enabled_at}
use Rattle.cg_model.specs.Clauses.{first}
use Rattle.cg_model.specs.Bars.{bars, passes}
use Rattle.cg_model.specs.Receiving.{receives}
use Rattle.cg_model.specs.Limits.{is_under}
use Rattle.cg_model.specs.declared.operation.Op.{Op}
use Rattle.cg_model.specs.declared.operation.Op.TheVariants.{Move, Control, Mkdir, Rmdir, Set, SetOther}
use Rattle.cg_model.specs.Tries.{other_value, other_text, is_told, told_controllers, change_of, probe, free_probe, is_inside}

-- nothing bars the operation
abbrev pub allowed : State → Identity → Op → Bool
allowed st user op = not (is_some (first (bars st user op)))

-- the list of an operation alone, where it is allowed
abbrev pub if_allowed : State → Identity → Op → Option (List Op)
if_allowed st user op = cond (allowed st user op) (Some (op ∷ [])) None

-- the first of what a list's elements give
abbrev pub first_given : {A B : Type 0} → (A → Option B) → List A → Option B
first_given f [] = None
first_given f (x ∷ xs) = option_or (f x) (first_given f xs)

-- ---- sets, controls and the removal

abbrev pub set_of : State → Identity → Names → LimitFile → Option (List Op)
set_of st user subtree file = option_and_then (λ value. if_allowed st user (Set subtree file (other_value file value))) (value_at st subtree file)

abbrev pub first_listed_set : State → Identity → Names → Option (List Op)
first_listed_set st user subtree = first_given (set_of st user subtree) all_files

-- of a limit file beyond `LimitFile`
abbrev pub other_set_of : State → Identity → Names → OtherFile → Option (List Op)
other_set_of st user subtree file =
    option_and_then (λ told. if_allowed st user (SetOther subtree file (other_text file told.value))) (file_told st subtree file)

-- the same of its entry and of what is told of its value
abbrev pub other_set_from : Identity → Names → OtherFile → Entry → Option FileText → Option (List Op)
other_set_from user subtree file entry had = cond (writes user entry) (Some (SetOther subtree file (other_text file had) ∷ [])) None

abbrev pub writes_some : Identity → Option Entry → Bool
writes_some user entry = elim entry [ None ↦ false | Some entry ↦ writes user entry ]

-- the user writes one of those files where nothing is told of them
abbrev pub writes_untold : Identity → Cgroup → Bool
writes_untold user row = writes_some user row.freeze || list_any (writes_some user) row.others.entries

abbrev pub first_other_set : State → Identity → Names → Option (List Op)
first_other_set st user subtree = first_given (other_set_of st user subtree) all_others

abbrev pub first_set : State → Identity → Names → Option (List Op)
first_set st user subtree = option_or (first_listed_set st user subtree) (first_other_set st user subtree)

-- the one change of the controller that has an effect
abbrev pub control_of : State → Identity → Names → Controller → Option (List Op)
control_of st user subtree controller =
    if_allowed st user (Control (parent subtree) (change_of (not (enables (enabled_at st (parent subtree)) controller)) controller ∷ []))

-- of a controller that is told of
abbrev pub told_control_of : State → Identity → Names → Controller → Option (List Op)
told_control_of st user subtree controller = cond (is_told st controller) (control_of st user subtree controller) None

abbrev pub first_control : State → Identity → Names → Option (List Op)
first_control st user subtree = first_given (control_of st user subtree) (told_controllers st)

-- the first of these, or the removal
abbrev pub first_write : State → Identity → Names → Option (List Op)
first_write st user subtree = option_or (first_set st user subtree) (option_or (first_control st user subtree) (if_allowed st user (Rmdir subtree)))

-- ---- moves

-- a place is outside, and whoever is inside passes to it
abbrev pub leads_out : State → Identity → Names → Names → Bool
leads_out st user subtree path = not (inside subtree path) && passes st user subtree path

-- where a process from inside may go, whichever it is
abbrev pub can_leave_to : State → Identity → Names → Names → Bool
can_leave_to st user subtree path = not (inside subtree path) && (receives st user path && passes st user subtree path)

-- where a process from outside may come to, once it may pass
abbrev pub can_enter_at : State → Identity → Names → Names → Bool
can_enter_at st user subtree path = inside subtree path && receives st user path

-- where a process at a place goes, if these are the first places outside and inside
abbrev pub goes_from : State → Identity → Names → Option Names → Option Names → Names → Option Names
goes_from st user subtree out into place = cond (inside subtree place) out (cond (passes st user place subtree) into None)

abbrev pub move_of : State → Identity → Names → Option Names → Option Names → ℕ → Option (List Op)
move_of st user subtree out into pid =
    option_and_then (λ place. option_map (λ path. Move pid path ∷ []) (goes_from st user subtree out into place)) (place_at st pid)

abbrev pub first_move : State → Identity → Names → Option (List Op)
first_move st user subtree =
    first_given (move_of st user subtree (find (can_leave_to st user subtree) (paths_of st)) (find (can_enter_at st user subtree) (paths_of st))) (pids_of st)

-- ---- probes

-- the path of a probe, where it is short enough
abbrev pub short_probe : Names → ℕ → Option Names
short_probe ancestor number = cond (nat_le (length (path_text (probe ancestor number))) 4095) (Some (probe ancestor number)) None

-- that of the first free one
abbrev pub free_path : State → Names → Option Names
free_path st ancestor = option_and_then (short_probe ancestor) (free_probe st ancestor)

-- the cgroup of the first `at` names lets in a new child of the ancestor of `len` names
abbrev pub level_passes : State → Names → ℕ → ℕ → Bool
level_passes st subtree len at = elim (row_at st (take at subtree)) [
  | None ↦ true
  | Some row ↦ is_under (count_below st (take at subtree)) row.max_descendants.value && is_under (len - at) row.max_depth.value
]

-- those of fewer than `count` names do
abbrev pub levels_pass : State → Names → ℕ → ℕ → Bool
levels_pass st subtree len zero = true
levels_pass st subtree len (suc at) = level_passes st subtree len at && levels_pass st subtree len at

-- whether the ancestor of `len` names and all above it let in a new child of it
abbrev pub lets_in : State → Names → ℕ → Bool
lets_in st subtree len = levels_pass st subtree len (suc len)

-- a level, or the lower one at which the depth limit of the cgroup of `at` names is reached
abbrev pub lowered : ℕ → ℕ → Limit → ℕ
lowered level at Max = level
lowered level at (At most) = min level (at + most)

-- the user writes the directory and cgroup.procs of the ancestor
abbrev pub writes_both : State → Identity → Names → Bool
writes_both st user ancestor = elim (row_at st ancestor) [ None ↦ false | Some row ↦ writes user row.dir && writes user row.procs ]

-- the path of a probe at the ancestor of `len` names, where one breaks
abbrev pub probe_path : State → Identity → Names → ℕ → Option Names
probe_path st user subtree len = cond (lets_in st subtree len && writes_both st user (take len subtree)) (free_path st (take len subtree)) None

-- at the first `len` ancestors from the root down, the nearest first
abbrev pub first_probe_path : State → Identity → Names → ℕ → Option Names
first_probe_path st user subtree zero = None
first_probe_path st user subtree (suc len) = option_or (probe_path st user subtree len) (first_probe_path st user subtree len)

-- the first process inside
abbrev pub first_inside : State → Names → Option ℕ
first_inside st subtree = find (is_inside st subtree) (pids_of st)

abbrev pub first_probe : State → Identity → Names → Option (List Op)
first_probe st user subtree =
    option_and_then (λ pid. option_map (λ path. Mkdir path ∷ Move pid path ∷ []) (first_probe_path st user subtree (length subtree))) (first_inside st subtree)

-- ---- what goes over the edge

abbrev pub first_passage : State → Identity → Names → Option (List Op)
first_passage st user subtree = option_or (first_move st user subtree) (first_probe st user subtree)
