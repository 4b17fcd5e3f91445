-- Whom the guarded entries of a subtree let in, whoever there is, and the lines of a report on that. Own.
use Rattle.std.specs.Prelude.{◌≡◌, ℕ, Bool, false, ◌&&◌, cond, List, [], ◌∷◌, ◌++◌, Some, codes, map}
use Rattle.std.specs.List.{Contains, filter, flat_map}
use Rattle.cg_cgroup.specs.Identity.{Identity}
use Rattle.cg_cgroup.specs.Paths.{Names, path_text}
use Rattle.cg_cgroup.specs.declared.user.Entry.{Entry}
use Rattle.cg_model.specs.Clauses.{present}
use Rattle.cg_model.specs.Guards.{Guarded, GuardsHold, guarded_entries, guarded_entry, standing}
use Rattle.cg_model.specs.Limits.{fits_descendants, fits_depth}
use Rattle.cg_model.specs.States.{State}
use Rattle.cg_model.specs.declared.guard.GuardedEntry.{GuardedEntry}
use Rattle.cg_model.specs.declared.mend.Class.{Class}
use Rattle.cg_model.specs.declared.mend.Class.TheVariants.{Owner, Group, Others}
use Rattle.cg_advice.specs.AdviceLines.{line, fails_line, over_line}
use Rattle.cg_advice.specs.WayLines.{Spot}
use Rattle.machine_everybody.specs.Everybody.{Everybody, Class as Kind, Owner as OwnerKind, Members as MembersKind, Others as OthersKind, IsAsked, entry_class, lets_class_in, lets_anybody_in}
use Rattle.cg_everybody.specs.declared.asked.Asked.{Asked}
use Rattle.cg_everybody.specs.declared.asked.Members.{Members}

-- the same classes in the words of a report, whose `group` is the members of an entry's group but its owner
abbrev pub class_kind : Class → Kind
class_kind Owner = OwnerKind
class_kind Group = MembersKind
class_kind Others = OthersKind

abbrev pub members_of : Members → ℕ × List ℕ
members_of group = (group.gid, group.uids.now)

abbrev pub everybody_of : Asked → Everybody
everybody_of asked = record { but = asked.but.now; groups = map members_of asked.groups.now }

abbrev pub opens_to : Everybody → Entry → Class → Bool
opens_to asked entry class = lets_class_in asked entry (class_kind class)

-- The classes that an entry lets in.
abbrev pub classes_in : Everybody → Entry → List Class
classes_in asked entry = filter (opens_to asked entry) (Owner ∷ Group ∷ Others ∷ [])

-- an entry of a subtree, where it lets somebody in
abbrev pub entered_by : Everybody → Names → GuardedEntry → List Spot
entered_by asked subtree at = cond (lets_anybody_in asked at.entry) ((subtree, at) ∷ []) []

-- a guarded one, where it is there
abbrev pub entrance_of : State → Everybody → Names → Guarded → List Spot
entrance_of st asked subtree guarded = present (standing st subtree guarded) (entered_by asked subtree)

-- in the order of the guards
abbrev pub entrances : State → Everybody → Names → List Spot
entrances st asked subtree = flat_map (entrance_of st asked subtree) (guarded_entries subtree)

-- a line for each class that a guarded entry lets in, where the entry is there
abbrev pub entrance_lines : State → Everybody → Names → Guarded → List ℕ
entrance_lines st asked subtree guarded =
    present (standing st subtree guarded) (λ at. flat_map (fails_line subtree at) (classes_in asked at.entry))

abbrev pub excess_lines : State → Names → List ℕ
excess_lines st subtree = cond (fits_descendants st subtree && fits_depth st subtree) [] (over_line subtree)

-- In the order of the guards, and last that the subtree is over its limits.
abbrev pub found_lines : State → Everybody → Names → List ℕ
found_lines st asked subtree = flat_map (entrance_lines st asked subtree) (guarded_entries subtree) ++ excess_lines st subtree

abbrev pub subtree_line : Names → List ℕ
subtree_line subtree = line (codes "subtree" ∷ path_text subtree ∷ [])

-- below the line of the subtree, where there are any
abbrev pub headed : Names → List ℕ → List ℕ
headed subtree [] = []
headed subtree (byte ∷ bytes) = subtree_line subtree ++ byte ∷ bytes

-- A subtree that nobody breaks who is asked about has none.
abbrev pub subtree_lines : State → Everybody → Names → List ℕ
subtree_lines st asked subtree = headed subtree (found_lines st asked subtree)

abbrev pub everybody_lines : State → Everybody → List Names → List ℕ
everybody_lines st asked subtrees = flat_map (subtree_lines st asked) subtrees

-- The guards hold for each user who is asked about.
abbrev pub GuardsHoldForEverybody : State → Everybody → Names → Type 0
GuardsHoldForEverybody st asked subtree = (user : Identity) → IsAsked asked user → GuardsHold st user subtree

-- The user is in no class that a guarded entry of the subtree lets in.
abbrev pub IsInNoClassIn : State → Everybody → Names → Identity → Type 0
IsInNoClassIn st asked subtree user =
    (guarded : Guarded) (entry : Entry) → Contains (guarded_entries subtree) guarded → guarded_entry st subtree guarded ≡ Some entry
    → lets_class_in asked entry (entry_class user entry) ≡ false
