-- What the second row of guards asks of a subtree against some users, one thing after another, and by what it is so.
use Rattle.std.specs.Prelude.{Bool, ◌&&◌, cond, List, [], ◌∷◌, ◌++◌, map, length, Option, Some, None, is_some}
use Rattle.std.specs.List.{flat_map}
use Rattle.cg_cgroup.specs.Paths.{Names, parent}
use Rattle.cg_cgroup.specs.Identity.{Identity}
use Rattle.cg_cgroup.specs.declared.files.Controller.{Controller}
use Rattle.cg_cgroup.specs.declared.files.EntryName.TheVariants.{Dir, Procs}
use Rattle.cg_model.specs.States.{State, paths_of}
use Rattle.cg_model.specs.Tries.{told_controllers}
use Rattle.cg_second.specs.Lasting.{is_reached}
use Rattle.cg_second.specs.Greatest.{greatest}
use Rattle.cg_second.specs.Judged.{takes_none, grows_none, spares_files}
use Rattle.cg_second.specs.Anchors.{is_anchored}
use Rattle.cg_second.specs.Exposed.{is_off_to, is_exposed}
use Rattle.cg_explain.specs.declared.second.Staying.{Staying}
use Rattle.cg_explain.specs.declared.second.Staying.TheVariants.{Spared as SparedStaying, Upheld}
use Rattle.cg_explain.specs.declared.second.Switch.{Switch}
use Rattle.cg_explain.specs.declared.second.Switch.TheVariants.{On, Off}
use Rattle.cg_explain.specs.declared.second.Taking.{Taking}
use Rattle.cg_explain.specs.declared.second.Taking.TheVariants.{Spared as SparedTaking, Enabling}
use Rattle.cg_explain.specs.declared.second.Growing.{Growing}
use Rattle.cg_explain.specs.declared.second.Growing.TheVariants.{Spared as SparedGrowing, Full}
use Rattle.cg_explain.specs.declared.second.Place.{Place}
use Rattle.cg_explain.specs.declared.second.Asked.{Asked}
use Rattle.cg_explain.specs.declared.second.Asked.TheVariants.{Stays, Control, Files, Shut}

-- nobody removes it, or one below it stays
abbrev pub why_stays : State → List Identity → Names → Option Staying
why_stays st users path =
    cond ((greatest st users).stays path) (Some (cond (is_anchored st users path) SparedStaying Upheld)) None

-- at the parent, as long as the subtree stays
abbrev pub why_control : State → List Identity → Names → Controller → Option Switch
why_control st users subtree controller =
    cond ((greatest st users).on (parent subtree) controller) (Some On)
    (cond (is_off_to st users subtree controller (length subtree)) (Some Off) None)

abbrev pub why_takes : State → List Identity → Names → Bool → Option Taking
why_takes st users path none = cond none (Some (cond (is_reached st users path Procs) Enabling SparedTaking)) None

abbrev pub why_grows : State → List Identity → Names → Bool → Option Growing
why_grows st users path none = cond none (Some (cond (is_reached st users path Dir) Full SparedGrowing)) None

-- a cgroup, and whether nobody makes one in it
abbrev pub place_with : State → List Identity → Names → Bool → Place
place_with st users path none = record {
  path = path;
  takes_none = why_takes st users path (takes_none st users (greatest st users) path);
  grows_none = why_grows st users path none;
}

-- where a move over the edge of the subtree may lead there
abbrev pub place_asked : State → List Identity → Names → Names → List Asked
place_asked st users subtree path =
    cond (is_exposed st users subtree path) (Shut (place_with st users path (grows_none st users (greatest st users) path)) ∷ []) []

abbrev pub control_asked : State → List Identity → Names → Controller → Asked
control_asked st users subtree controller = Control controller (why_control st users subtree controller)

-- each controller that is told of
abbrev pub controls_asked : State → List Identity → Names → List Asked
controls_asked st users subtree = map (control_asked st users subtree) (told_controllers st)

-- all but that the subtree is within its own limits
abbrev pub second_row_asked : State → List Identity → Names → List Asked
second_row_asked st users subtree =
    Stays (why_stays st users subtree)
    ∷ controls_asked st users subtree
    ++ Files (spares_files st users subtree)
    ∷ flat_map (place_asked st users subtree) (paths_of st)

abbrev pub is_met : Asked → Bool
is_met (Stays why) = is_some why
is_met (Control controller how) = is_some how
is_met (Files spared) = spared
is_met (Shut place) = is_some place.takes_none && is_some place.grows_none
