-- What to change so that nobody is let in who is asked about, and the tree with the changes made. Own.
use Rattle.std.specs.Prelude.{◌≡◌, ℕ, Bool, ◌&&◌, not, cond, List, ◌++◌, filter, take}
use Rattle.std.specs.List.{flat_map, list_any}
use Rattle.std.specs.Option.{option_map}
use Rattle.cg_cgroup.specs.Files.{same_entry}
use Rattle.cg_cgroup.specs.Paths.{Names, same_path}
use Rattle.cg_cgroup.specs.declared.files.EntryName.{EntryName}
use Rattle.cg_cgroup.specs.declared.files.LimitFile.{LimitFile}
use Rattle.cg_cgroup.specs.declared.other_file.OtherFile.{OtherFile}
use Rattle.cg_cgroup.specs.declared.user.Entry.{Entry}
use Rattle.cg_model.specs.Advised.{raised}
use Rattle.cg_model.specs.Mended.{without_bits}
use Rattle.cg_model.specs.Mends.{Change, changes_at, limit_changes, made}
use Rattle.cg_model.specs.Once.{once}
use Rattle.cg_model.specs.States.{State, entry_at, value_at, told_text, paths_of}
use Rattle.cg_model.specs.WellFormed.{enabled_at}
use Rattle.cg_model.specs.declared.mend.Class.TheVariants.{Owner, Group, Others}
use Rattle.cg_advice.specs.AdviceLines.{over_lines}
use Rattle.cg_advice.specs.Found.{Let}
use Rattle.cg_advice.specs.WayLines.{Spot, chown_by, chmod_by, lines_by}
use Rattle.cg_advice.specs.declared.ways.Ways.{Ways}
use Rattle.machine_everybody.specs.Everybody.{Everybody}
use Rattle.cg_everybody.specs.Everybody.{entrances, opens_to}

-- root's, where its owner is let in: they may then be of another class of it
abbrev pub handed_back : Everybody → Entry → Entry
handed_back asked entry = record entry { uid = cond (opens_to asked entry Owner) 0 entry.uid }

-- By what an entry lets somebody in, and by which bits once it is handed back.
abbrev pub ways_into : Everybody → Entry → Ways
ways_into asked entry = record {
  owner = opens_to asked entry Owner;
  group = opens_to asked entry Group;
  others = opens_to asked entry Others;
  inside = opens_to asked (handed_back asked entry) Group;
  outside = opens_to asked (handed_back asked entry) Others;
}

-- whether it is the entry of this name at this path
abbrev pub is_spot_at : Names → EntryName → Spot → Bool
is_spot_at path name spot = same_path (take spot.1.len spot.0) path && same_entry spot.1.name name

-- the same entry of the same cgroup
abbrev pub same_spot : Spot → Spot → Bool
same_spot other each = is_spot_at (take other.1.len other.0) other.1.name each

-- Each entry that lets somebody in, where the subtrees meet it first.
abbrev pub spots_met : State → Everybody → List Names → List Spot
spots_met st asked subtrees = once same_spot (flat_map (entrances st asked) subtrees)

-- by what it lets somebody in
abbrev pub let_into : Everybody → Spot → Let
let_into asked spot = (spot.0, spot.1, ways_into asked spot.1.entry)

-- a line for each class that it lets in, and below the last the changes
abbrev pub let_lines : Let → List ℕ
let_lines (subtree, at, ways) = lines_by ways subtree at

abbrev pub spot_lines : Everybody → Spot → List ℕ
spot_lines asked spot = let_lines (let_into asked spot)

-- The lines of each such entry, and then of the limits of each subtree.
abbrev pub everybody_advice : State → Everybody → List Names → List ℕ
everybody_advice st asked subtrees =
    flat_map (spot_lines asked) (spots_met st asked subtrees) ++ flat_map (over_lines st) (once same_path subtrees)

abbrev pub spot_changes : Everybody → Spot → List Change
spot_changes asked spot =
    let ways = ways_into asked spot.1.entry in changes_at spot.0 (chown_by ways spot.1 ++ chmod_by ways spot.1)

abbrev pub everybody_changes : State → Everybody → List Names → List Change
everybody_changes st asked subtrees =
    flat_map (spot_changes asked) (spots_met st asked subtrees) ++ flat_map (limit_changes st) (once same_path subtrees)

-- The tree with the changes made.
abbrev pub everybody_advised : State → Everybody → List Names → State
everybody_advised st asked subtrees = made (everybody_changes st asked subtrees) st

-- ---- what they leave

-- An entry that is taken from all who are let in.
abbrev pub taken_back : Everybody → Entry → Entry
taken_back asked entry =
    let ways = ways_into asked entry in
    record { uid = cond ways.owner 0 entry.uid; gid = entry.gid; mode = without_bits ways.inside ways.outside entry.mode }

-- whether a guard of one of the subtrees stands on an entry, and it lets somebody in
abbrev pub lets_in_at : State → Everybody → List Names → Names → EntryName → Bool
lets_in_at st asked subtrees path name = list_any (is_spot_at path name) (flat_map (entrances st asked) subtrees)

abbrev pub is_asked_of : List Names → Names → Bool
is_asked_of subtrees path = list_any (λ subtree. same_path subtree path) subtrees

-- Nothing differs but these entries, each taken back, and the limits that a subtree was over.
pub record IsAdvisedToEverybody (st new : State) (asked : Everybody) (subtrees : List Names) : Type 0 where
  pub entries : (path : Names) (name : EntryName) → entry_at new path name
      ≡ option_map (λ entry. cond (lets_in_at st asked subtrees path name) (taken_back asked entry) entry) (entry_at st path name)
  pub values : (path : Names) (file : LimitFile) → value_at new path file
      ≡ cond (is_asked_of subtrees path) (option_map (raised st path file) (value_at st path file)) (value_at st path file)
  pub texts : (path : Names) (file : OtherFile) → told_text new path file ≡ told_text st path file
  pub enabled : (path : Names) → enabled_at new path ≡ enabled_at st path
  pub paths : paths_of new ≡ paths_of st
  pub live : new.live ≡ st.live
  pub used : new.used ≡ st.used
  pub controllers : new.controllers ≡ st.controllers

-- The tree with all changes made but those of one entry, or those of the limits.
abbrev pub advised_but : State → Everybody → List Names → Spot → State
advised_but st asked subtrees left =
    made (flat_map (spot_changes asked) (filter (λ spot. not (same_spot left spot)) (spots_met st asked subtrees))
    ++ flat_map (limit_changes st) (once same_path subtrees)) st

abbrev pub advised_but_limits : State → Everybody → List Names → State
advised_but_limits st asked subtrees = made (flat_map (spot_changes asked) (spots_met st asked subtrees)) st
