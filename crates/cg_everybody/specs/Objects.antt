-- The JSON objects of whom the guarded entries of subtrees let in, whoever there is, with the words of their lines. Own.
use Rattle.std.specs.Prelude.{ℕ, Bool, true, false, ◌&&◌, cond, List, [], ◌∷◌, ◌++◌, map, Some, None, codes}
use Rattle.std.specs.List.{flat_map}
use Rattle.cg_cgroup.specs.Paths.{Names, path_text, same_path}
use Rattle.cg_model.specs.Clauses.{present}
use Rattle.cg_model.specs.Guards.{Guarded, guarded_entries, standing}
use Rattle.cg_model.specs.GuardNames.{guard_name}
use Rattle.cg_model.specs.Limits.{fits_descendants, fits_depth}
use Rattle.cg_model.specs.Once.{once}
use Rattle.cg_model.specs.States.{State}
use Rattle.cg_model.specs.declared.guard.Guard.TheVariants.{AlreadyOver}
use Rattle.cg_model.specs.declared.guard.GuardedEntry.{GuardedEntry}
use Rattle.cg_model.specs.declared.mend.Class.{Class}
use Rattle.cg_advice.specs.Found.{raised_of}
use Rattle.cg_advice.specs.WayLines.{Spot}
use Rattle.serde_json.specs.Data.{Data, array, object, Members, no_members, put}
use Rattle.serde_json.specs.View.{items_of}
use Rattle.cg_json.specs.Members.{put_text, put_number, each_value, numbers_value}
use Rattle.cg_json.specs.Answers.{contained_members}
use Rattle.cg_json.specs.Entries.{at_guard, entry_members, classes_value}
use Rattle.cg_json.specs.Advice.{failing_members}
use Rattle.cg_explain.specs.FirstRow.{is_told_of}
use Rattle.cg_explain.specs.Objects.{told_value, limits_values}
use Rattle.machine_everybody.specs.Everybody.{Everybody, lets_anybody_in}
use Rattle.cg_everybody.specs.Advice.{ways_into, spots_met, let_into}
use Rattle.cg_everybody.specs.Everybody.{classes_in, entrances}

-- ---- what an answer stands on

abbrev pub group_value : ℕ × List ℕ → Data
group_value group = object (put (codes "uids") (numbers_value group.1) (put_number (codes "gid") group.0 no_members))

-- who is left out, and who may be in groups
abbrev pub put_premises : Everybody → Members → Members
put_premises asked members =
    put (codes "groups") (each_value group_value asked.groups) (put (codes "but") (numbers_value asked.but) members)

-- ---- subtrees

-- whether there is somebody who may break one
abbrev pub found_answer : Bool → Members
found_answer false = contained_members
found_answer true = put_text (codes "answer") (codes "fails") no_members

-- with a list of subtrees
abbrev pub found_members : Everybody → Bool → List Data → Members
found_members asked found subtrees =
    put_premises asked (put (codes "subtrees") (array (items_of subtrees)) (found_answer found))

-- a subtree, and what is said of it
abbrev pub subtree_value : List ℕ → Names → List Data → Data
subtree_value name subtree values = object (put name (array (items_of values)) (put_text (codes "subtree") (path_text subtree) no_members))

-- ---- whom a subtree is broken by

-- an entry, and the classes that it lets in
abbrev pub entrance_value : Everybody → Spot → Data
entrance_value asked spot = object (put (codes "classes") (classes_value (ways_into asked spot.1.entry)) (entry_members spot.0 spot.1))

abbrev pub excess_values : State → Names → List Data
excess_values st subtree =
    cond (fits_descendants st subtree && fits_depth st subtree) [] (object (at_guard (guard_name AlreadyOver) (path_text subtree)) ∷ [])

-- In the order of the guards, and last that the subtree is over its limits.
abbrev pub found_values : State → Everybody → Names → List Data
found_values st asked subtree = map (entrance_value asked) (entrances st asked subtree) ++ excess_values st subtree

-- where there are any
abbrev pub headed_values : Names → List Data → List Data
headed_values subtree [] = []
headed_values subtree (value ∷ values) = subtree_value (codes "fails") subtree (value ∷ values) ∷ []

abbrev pub subtree_audited : State → Everybody → Names → List Data
subtree_audited st asked subtree = headed_values subtree (found_values st asked subtree)

abbrev pub audited_members : State → Everybody → List Names → Bool → Members
audited_members st asked subtrees found = found_members asked found (flat_map (subtree_audited st asked) subtrees)

abbrev pub audited_value : State → Everybody → List Names → Bool → Data
audited_value st asked subtrees found = object (audited_members st asked subtrees found)

-- ---- whom each guarded entry lets in

abbrev pub by_class : Names → GuardedEntry → Class → Data
by_class subtree at class = told_value subtree (record { at = at; by = Some class })

-- An object for each class that it lets in; else one, where the tree tells of it, that it lets nobody in.
abbrev pub entry_values : State → Everybody → Names → GuardedEntry → List Data
entry_values st asked subtree at =
    cond (lets_anybody_in asked at.entry) (map (by_class subtree at) (classes_in asked at.entry))
    (cond (is_told_of st subtree at.name) (told_value subtree (record { at = at; by = None }) ∷ []) [])

-- where it is there
abbrev pub guarded_values : State → Everybody → Names → Guarded → List Data
guarded_values st asked subtree guarded = present (standing st subtree guarded) (entry_values st asked subtree)

abbrev pub guards_values : State → Everybody → Names → List Data
guards_values st asked subtree = flat_map (guarded_values st asked subtree) (guarded_entries subtree) ++ limits_values st subtree

abbrev pub subtree_explained_value : State → Everybody → Names → Data
subtree_explained_value st asked subtree = subtree_value (codes "guards") subtree (guards_values st asked subtree)

abbrev pub explained_members : State → Everybody → List Names → Bool → Members
explained_members st asked subtrees found = found_members asked found (map (subtree_explained_value st asked) subtrees)

abbrev pub explained_value : State → Everybody → List Names → Bool → Data
explained_value st asked subtrees found = object (explained_members st asked subtrees found)

-- ---- what to change

-- each entry where it is met first, and then each subtree
abbrev pub changes_members : State → Everybody → List Names → Members
changes_members st asked subtrees =
    failing_members (map (let_into asked) (spots_met st asked subtrees)) (flat_map (raised_of st) (once same_path subtrees))

-- where there is somebody who may break one
abbrev pub or_contained : Bool → Members → Members
or_contained false told = contained_members
or_contained true told = told

abbrev pub advised_members : State → Everybody → List Names → Bool → Members
advised_members st asked subtrees found = put_premises asked (or_contained found (changes_members st asked subtrees))

abbrev pub advised_value : State → Everybody → List Names → Bool → Data
advised_value st asked subtrees found = object (advised_members st asked subtrees found)
