-- How it is read and written: nobody has to believe it.
-- The reader's walk over rows in the order of their paths: what is above each, and which test it fails. Own.
use Rattle.std.specs.Prelude.{◌≡◌, ℕ, ◌-◌, option_and_then, ◌≤◌, nat_lt, nat_eq, Bool, true, false, ◌&&◌, ◌||◌, not, cond, List, [], ◌∷◌, ◌++◌, length, take, Option, Some, None, is_some, unwrap_or, find, reverse, filter_map, slice_get, zero, suc}
use Rattle.std.specs.Option.{option_map}
use Rattle.std.specs.List.{list_any}
use Rattle.std.specs.List.Sorted.{IsSortedByKey}
use Rattle.cg_cgroup.specs.Paths.{Names, path_cmp, same_path, is_root, parent, inside}
use Rattle.cg_cgroup.specs.Files.{no_controllers, is_within, stands_under}
use Rattle.cg_cgroup.specs.Cgroups.{file_of, files_by, others_under, root_file}
use Rattle.cg_cgroup.specs.declared.controllers.ControllerSet.{ControllerSet}
use Rattle.cg_cgroup.specs.declared.files.LimitFile.{LimitFile}
use Rattle.cg_cgroup.specs.declared.cgroup.LimitEntry.{LimitEntry}
use Rattle.cg_cgroup.specs.declared.cgroup.Cgroup.{Cgroup}
use Rattle.cg_cgroup.specs.declared.told.ToldFiles.{ToldFiles}
use Rattle.cg_format.specs.TextFaults.{tell_standing}
use Rattle.cg_format.specs.declared.fault.Place.TheVariants.{Cgroup as AtCgroup}
use Rattle.cg_format.specs.declared.fault.TreeFault.{TreeFault}
use Rattle.cg_format.specs.declared.fault.TreeFault.TheVariants.{Duplicate, NoRoot, NoParent, TopDown, NoSuchFile}
use Rattle.cg_text.specs.declared.tree.row.Row.{Row}
use Rattle.cg_text.specs.declared.tree.walk.Above.{Above}
use Rattle.cg_text.specs.declared.tree.walk.Least.{Least}
use Rattle.cg_text.specs.declared.tree.walk.Walk.{Walk}

-- ---- a row among those that were met

abbrev pub has_met : List Row → Names → Bool
has_met met path = list_any (λ row. same_path path row.path) met

-- what the cgroup enables that was met last at a path
abbrev pub enabled_by : List Row → Names → Option ControllerSet
enabled_by met path = option_map (λ row. row.cgroup.enabled) (find (λ row. same_path path row.path) (reverse met))

-- what the parent enables, and at the root what there is
abbrev pub over_in : ControllerSet → List Row → Names → Option ControllerSet
over_in at_root met path = cond (is_root path) (Some at_root) (enabled_by met (parent path))

-- a limit file where it stands
abbrev pub held_under : ControllerSet → LimitFile → Option LimitEntry → Option LimitEntry
held_under over file held = cond (stands_under over file) held None

abbrev pub fitted_to : ControllerSet → Cgroup → Cgroup
fitted_to over cgroup = record cgroup {
  files = files_by (λ file. held_under over file (file_of cgroup file));
  others = others_under over root_file;
}

-- the rows' entries, each behind those before it
abbrev pub entries_from : List Row → List Row → List (Names × Cgroup)
entries_from met [] = []
entries_from met (row ∷ rows) = (row.path, fitted_to (unwrap_or (over_in no_controllers met row.path) no_controllers) row.cgroup) ∷ entries_from (met ++ row ∷ []) rows

-- what rows tell of the limit files beyond `LimitFile`
abbrev pub told_here : Row → Option (Names × ToldFiles)
told_here row = option_map (λ files. (row.path, files)) row.told

abbrev pub told_from : List Row → List (Names × ToldFiles)
told_from rows = filter_map told_here rows

-- ---- the tests

abbrev pub is_orphan : List Row → Row → Bool
is_orphan met row = not (is_some (over_in no_controllers met row.path))

abbrev pub is_past : ControllerSet → Option ControllerSet → Bool
is_past set over = elim over [ None ↦ false | Some other ↦ not (is_within set other) ]

abbrev pub is_not_within : ControllerSet → List Row → Row → Bool
is_not_within controllers met row = is_past row.cgroup.enabled (over_in controllers met row.path)

-- whether one of these doesn't stand under what is over its path, where that is known
abbrev pub tells_past : Names → Option ToldFiles → Option ControllerSet → Bool
tells_past path told over = elim over [ None ↦ false | Some above ↦ not (tell_standing path above told) ]

abbrev pub names_past : Row → Option ControllerSet → Bool
names_past row over = is_past row.needed over || tells_past row.path row.told over

abbrev pub has_no_file : List Row → Row → Bool
has_no_file met row = names_past row (over_in no_controllers met row.path)

-- The least number of a row that fails a test behind those before it.
pub record IsLeast (fails : List Row → Row → Bool) (rows : List Row) (least : Option ℕ) : Type 0 where
  pub found : (number : ℕ) → least ≡ Some number → (front : List Row) × (row : Row) × (back : List Row) × (front ++ row ∷ back ≡ rows)
      × (fails front row ≡ true) × (row.number ≡ number)
  pub below : (front : List Row) (row : Row) (back : List Row) → front ++ row ∷ back ≡ rows → fails front row ≡ true
      → (number : ℕ) × (least ≡ Some number) × (number ≤ row.number)

abbrev pub lesser : Option ℕ → ℕ → Option ℕ
lesser None number = Some number
lesser (Some least) number = Some (cond (nat_lt least number) least number)

-- the least number behind a row of this number
abbrev pub noted : Option ℕ → ℕ → Bool → Option ℕ
noted least number fails = cond fails (lesser least number) least

-- the least numbers behind a row, by whether its path was met and by what is over it
abbrev pub least_behind : ControllerSet → Bool → Option ControllerSet → Row → Least → Least
least_behind controllers twice over row least = record {
  twice = noted least.twice row.number twice;
  orphan = noted least.orphan row.number (not (is_some over));
  not_within = noted least.not_within row.number (is_past row.cgroup.enabled (cond (is_root row.path) (Some controllers) over));
  no_file = noted least.no_file row.number (names_past row over);
}

-- the first fault of the least numbers
abbrev pub least_fault : Least → Bool → Option TreeFault
least_fault least has_root =
    elim least.twice [
      | Some number ↦ Some (Duplicate (AtCgroup number))
      | None ↦ cond has_root
          (elim least.orphan [
            | Some number ↦ Some (NoParent (AtCgroup number))
            | None ↦
                elim least.not_within [
                  | Some number ↦ Some (TopDown (AtCgroup number))
                  | None ↦
                      option_map (λ number. NoSuchFile (AtCgroup number)) least.no_file
                ]
          ]) (Some NoRoot)
    ]

-- ---- how far the walk has come

abbrev pub last_of : {A : Type 0} → List A → Option A
last_of xs = slice_get xs (length xs - 1)

-- what the last of these cgroups enables, where it is the parent of a path of so many names; nothing is over the root
abbrev pub over_at : List Above → ℕ → Option ControllerSet
over_at above len =
    cond (nat_eq len 0) (Some no_controllers) (option_and_then (λ (top : Above). cond (nat_eq top.len (len - 1)) (Some top.enabled) None) (last_of above))

abbrev pub front_at : ℕ → Option ControllerSet → List Above
front_at len None = []
front_at len (Some enabled) = record { len = len; enabled = enabled } ∷ []

-- the fronts of fewer names than a number, from the root down, by what those that were met enable
abbrev pub fronts_below : (ℕ → Option ControllerSet) → ℕ → List Above
fronts_below at zero = []
fronts_below at (suc len) = fronts_below at len ++ front_at len (at len)

-- what the front of a path enables that has so many names
abbrev pub met_at : List Row → Names → ℕ → Option ControllerSet
met_at met path len = enabled_by met (take len path)

-- the fronts of a path of fewer names than it has, and all
abbrev pub fronts_above : List Row → Names → List Above
fronts_above met path = fronts_below (met_at met path) (length path)

abbrev pub fronts : List Row → Names → List Above
fronts met path = fronts_below (met_at met path) (suc (length path))

-- whether the last of these cgroups has a path that is a front of this one and of the last path
abbrev pub is_front : List Above → List Names → Names → Bool
is_front above paths path =
    elim (last_of above) [ None ↦ false | Some top ↦ elim (last_of paths) [ None ↦ false | Some other ↦ nat_lt top.len (length path) && inside (take top.len path) other ] ]

abbrev pub has_root : List (Names × Cgroup) → Bool
has_root entries = elim (slice_get entries 0) [ None ↦ false | Some entry ↦ is_root entry.0 ]

-- For each test the number is kept of the first row in the text that fails it.
pub record HasTested (controllers : ControllerSet) (met : List Row) (least : Least) : Type 0 where
  pub twice : IsLeast (λ earlier row. has_met earlier row.path) met least.twice
  pub orphan : IsLeast is_orphan met least.orphan
  pub not_within : IsLeast (is_not_within controllers) met least.not_within
  pub no_file : IsLeast has_no_file met least.no_file

-- The walk has met these rows.
pub record HasMet (controllers : ControllerSet) (met : List Row) (walk : Walk) : Type 0 where
  pub entries : walk.entries.items ≡ entries_from [] met
  pub told : walk.told.items ≡ told_from met
  pub none : met ≡ [] → walk.above.items ≡ []
  pub above : (row : Row) (rows : List Row) → met ≡ rows ++ row ∷ [] → walk.above.items ≡ fronts met row.path
  pub tested : HasTested controllers met walk.least

-- no row is before the one before it
abbrev pub AreInOrder : List Row → Type 0
AreInOrder rows = IsSortedByKey (λ row. row.path) path_cmp rows

-- the rows are in order, and so they are with this one behind them
abbrev pub IsNext : List Row → Row → Type 0
IsNext met row = AreInOrder (met ++ row ∷ [])
