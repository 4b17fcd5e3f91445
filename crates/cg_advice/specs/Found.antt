-- What is to be changed, as it is told apart from its lines. Own.
use Rattle.std.specs.Prelude.{ℕ, ◌&&◌, not, cond, List, [], ◌∷◌, ◌++◌, map, Option, Some, None, length, take}
use Rattle.std.specs.List.{flat_map, list_any, list_all}
use Rattle.cg_cgroup.specs.Paths.{Names}
use Rattle.cg_cgroup.specs.Identity.{Identity}
use Rattle.cg_cgroup.specs.Users.{in_group}
use Rattle.cg_cgroup.specs.Files.{entry_text}
use Rattle.cg_cgroup.specs.declared.files.Limit.TheVariants.{At}
use Rattle.cg_cgroup.specs.declared.files.LimitFile.{LimitFile}
use Rattle.cg_cgroup.specs.declared.files.LimitFile.TheVariants.{MaxDescendants, MaxDepth}
use Rattle.cg_cgroup.specs.declared.user.Entry.{Entry}
use Rattle.cg_model.specs.States.{State}
use Rattle.cg_model.specs.Limits.{fits_descendants, fits_depth}
use Rattle.cg_model.specs.Mended.{is_by}
use Rattle.cg_model.specs.Mends.{Pair, Entrant, entrants, users_with, met, subtrees_of, limit_mends}
use Rattle.cg_model.specs.declared.guard.GuardedEntry.{GuardedEntry}
use Rattle.cg_model.specs.declared.mend.Class.TheVariants.{Owner, Group, Others}
use Rattle.cg_model.specs.declared.mend.Mend.{Mend}
use Rattle.cg_model.specs.declared.mend.Mend.TheVariants.{Set}
use Rattle.cg_advice.specs.AdviceLines.{is_pair_guarded}
use Rattle.cg_advice.specs.Ways.{ways_at}
use Rattle.cg_advice.specs.declared.ways.Ways.{Ways}
use Rattle.cg_advice.specs.declared.pair.Stand.{Stand}
use Rattle.cg_advice.specs.declared.pair.Over.{Over}
use Rattle.cg_advice.specs.declared.found.Found.{Found}

-- by what users get in at an entry
abbrev pub ways_by : List Identity → Entry → Ways
ways_by users entry = record {
  owner = list_any (λ user. is_by Owner entry user) users;
  group = list_any (λ user. is_by Group entry user) users;
  others = list_any (λ user. is_by Others entry user) users;
  inside = list_any (λ user. in_group user entry.gid) users;
  outside = list_any (λ user. not (in_group user entry.gid)) users;
}

-- an entry of a subtree that lets users in, and by what
abbrev pub Let : Type 0
Let = Names × GuardedEntry × Ways

abbrev pub stand_let : Stand → Let
stand_let stand = (stand.subtree.now, stand.at, stand.ways)

-- by all who get in there
abbrev pub let_by : List Entrant → Entrant → Let
let_by all each = (each.subtree, each.at, ways_by (users_with all each) each.at.entry)

-- the same, as the code keeps it
abbrev pub let_gathered : List Entrant → Entrant → Let
let_gathered all each =
    (each.subtree, each.at, ways_at (take each.at.len each.subtree, record { ref_ptr = (0, 0); now = entry_text each.at.name }) all)

-- a subtree that is over its limits, and what raises them
abbrev pub Raised : Type 0
Raised = Names × List Mend

abbrev pub raised_to : Names → LimitFile → Option ℕ → List Mend
raised_to subtree file None = []
raised_to subtree file (Some there) = Set (length subtree) file (At there) ∷ []

abbrev pub over_raised : Over → Raised
over_raised over =
    let subtree = over.subtree.now in (subtree, raised_to subtree MaxDescendants over.descendants ++ raised_to subtree MaxDepth over.depth)

abbrev pub raised_of : State → Names → List Raised
raised_of st subtree = cond (fits_descendants st subtree && fits_depth st subtree) [] ((subtree, limit_mends st subtree) ∷ [])

abbrev pub found_parts : Found → List Let × List Raised
found_parts found = (map stand_let found.stands.items, map over_raised found.overs.items)

-- each entry where it is met first, and then each subtree
abbrev pub parts_of : State → List Pair → List Let × List Raised
parts_of st pairs = (map (let_by (entrants st pairs)) (met st pairs), flat_map (raised_of st) (subtrees_of pairs))

-- None where no guard fails for a pair.
abbrev pub advice_parts : State → List Pair → Option (List Let × List Raised)
advice_parts st pairs = cond (list_all (is_pair_guarded st) pairs) None (Some (parts_of st pairs))
