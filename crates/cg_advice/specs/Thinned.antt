-- How an answer is found: nobody has to believe it.
-- Those who get in without those who get in by nothing new, and the tables by which they are told apart.
use Rattle.std.specs.Prelude.{◌≡◌, ℕ, Bool, true, false, ◌&&◌, not, cond, List, [], ◌∷◌, ◌++◌, map, take, slice_get, unwrap_or}
use Rattle.std.specs.List.{All, flat_map, list_any}
use Rattle.std.specs.Option.{option_map}
use Rattle.cg_cgroup.specs.Paths.{Names, same_path}
use Rattle.cg_cgroup.specs.Identity.{Identity}
use Rattle.cg_cgroup.specs.Users.{reaches}
use Rattle.cg_cgroup.specs.Files.{entry_text}
use Rattle.cg_model.specs.States.{State}
use Rattle.cg_model.specs.Once.{once}
use Rattle.cg_model.specs.Clauses.{unless, present}
use Rattle.cg_model.specs.Guards.{Guarded, guarded_entries, standing, IsSubtree}
use Rattle.cg_model.specs.declared.guard.GuardedEntry.{GuardedEntry}
use Rattle.cg_model.specs.Mends.{Pair as Named, Entrant as Entering, entrants, same_place}
use Rattle.cg_advice.specs.WayLines.{Spot}
use Rattle.cg_advice.specs.Ways.{Key, is_keyed, ways_at, ways_with, tells}
use Rattle.cg_advice.specs.declared.ways.Ways.{Ways}
use Rattle.cg_advice.specs.declared.pair.Stand.{Stand}
use Rattle.cg_advice.specs.declared.table.Table.{Table}

-- ---- lists with the same first ones

-- Some of a list's things, among which each of them is met, and met first as in the list.
pub record IsThin {X K : Type 0} (same : X → X → Bool) (meets : K → X → Bool) (found all : List X) : Type 0 where
  pub first : once same found ≡ once same all
  pub met : (key : K) → list_any (meets key) found ≡ list_any (meets key) all

-- of those who get in, by the same ways at each entry
pub record IsThinned (found all : List Entering) : Type 0 where
  pub thin : IsThin same_place is_keyed found all
  pub ways : (key : Key) → ways_at key found ≡ ways_at key all

-- of the subtrees that pairs name
abbrev pub AreTabled : List Names → List Names → Type 0
AreTabled found all = IsThin same_path (λ key path. same_path path key) found all

-- ---- entries on which guards stand

abbrev pub spots_of : State → Names → Guarded → List Spot
spots_of st subtree guarded = present (standing st subtree guarded) (λ at. (subtree, at) ∷ [])

abbrev pub spots : State → Names → List Spot
spots st subtree = flat_map (spots_of st subtree) (guarded_entries subtree)

abbrev pub spot_of : Stand → Spot
spot_of stand = (stand.subtree.now, stand.at)

-- a user at an entry, and where they get in there
abbrev pub entered : Identity → Spot → Entering
entered user spot = record { user = user; subtree = spot.0; at = spot.1 }

abbrev pub entered_at : Identity → Spot → List Entering
entered_at user spot = unless (not (reaches user spot.1.entry)) (entered user spot)

-- ---- by what users get in there

abbrev pub key_at : Names → GuardedEntry → Key
key_at subtree at = (take at.len subtree, record { ref_ptr = (0, 0); now = entry_text at.name })

-- All ways of the first are among those of the second.
pub record AreAmong (some all : Ways) : Type 0 where
  pub owner : some.owner ≡ true → all.owner ≡ true
  pub group : some.group ≡ true → all.group ≡ true
  pub others : some.others ≡ true → all.others ≡ true
  pub inside : some.inside ≡ true → all.inside ≡ true
  pub outside : some.outside ≡ true → all.outside ≡ true

-- by what those got in who were met at an entry is among that of all
abbrev pub IsKnown : List Entering → Stand → Type 0
IsKnown all stand = AreAmong stand.ways (ways_at (key_at stand.subtree.now stand.at) all)

abbrev pub is_new : Stand → Identity → Bool
is_new stand user = not (tells stand.ways user stand.at.entry) && reaches user stand.at.entry

-- with one more user
abbrev pub joined : Stand → Identity → Ways
joined stand user = cond (is_new stand user) (ways_with stand.ways user stand.at.entry) stand.ways

-- One more user at some of the entries of a subtree, in turn.
pub record AreMet (user : Identity) (before after : List Entering) (old new : List Stand) (spots : List Spot) : Type 0 where
  pub same : map spot_of new ≡ map spot_of old
  pub known : All (IsKnown before) old → All (IsKnown after) new
  pub kept : (other : Stand) → IsKnown before other → IsKnown after other
  pub thinned : All (IsKnown before) old → (all : List Entering) → IsThinned before all
      → IsThinned after (all ++ flat_map (entered_at user) spots)

-- ---- tables

abbrev pub table_path : Table → Names
table_path table = table.subtree.now

abbrev pub is_table_of : List Table → ℕ → Names → Bool
is_table_of tables place subtree = unwrap_or (option_map (λ table. same_path (table_path table) subtree) (slice_get tables place)) false

pub record IsTable (st : State) (all : List Entering) (table : Table) : Type 0 where
  pub subtree : IsSubtree st (table_path table)
  pub spots : map spot_of table.stands.items ≡ spots st (table_path table)
  pub known : All (IsKnown all) table.stands.items

-- Who was met of some pairs, and the tables of their subtrees.
pub record HaveEntered (st : State) (pairs : List Named) (found : List Entering) (tables : List Table) : Type 0 where
  pub thinned : IsThinned found (entrants st pairs)
  pub formed : All (IsTable st found) tables
  pub named : AreTabled (map table_path tables) (map (λ pair. pair.subtree) pairs)
