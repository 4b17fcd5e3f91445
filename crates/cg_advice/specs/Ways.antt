-- How an answer is found: nobody has to believe it.
-- By what users get in at an entry, as the code keeps it.
use Rattle.std.specs.Prelude.{◌≡◌, ℕ, Bool, false, ◌&&◌, ◌||◌, not, cond, List, unwrap_or, take}
use Rattle.std.specs.Borrow.{Bor}
use Rattle.std.specs.List.{list_any, filter}
use Rattle.std.specs.Ordering.{nat_cmp, ordering_then}
use Rattle.std.specs.declared.cmp.Ordering.{Ordering}
use Rattle.std.specs.Cmp.Lexicographic.{slice_cmp}
use Rattle.std.specs.BTreeMap.{BTreeMap, get}
use Rattle.cg_cgroup.specs.Paths.{Names, path_cmp, same_path, same_name}
use Rattle.cg_cgroup.specs.Identity.{Identity}
use Rattle.cg_cgroup.specs.Users.{owns, in_group}
use Rattle.cg_cgroup.specs.Files.{entry_text}
use Rattle.cg_cgroup.specs.declared.user.Entry.{Entry}
use Rattle.cg_model.specs.Mended.{is_by}
use Rattle.cg_model.specs.Mends.{Pair as Named, Entrant as Entering}
use Rattle.cg_model.specs.declared.mend.Class.TheVariants.{Owner, Group, Others}
use Rattle.cg_advice.specs.declared.ways.Ways.{Ways}
use Rattle.cg_advice.specs.declared.pair.Pair.{Pair}
use Rattle.cg_advice.specs.declared.pair.Entrant.{Entrant}
use Rattle.cg_advice.specs.WayLines.{lines_by}

-- ---- pairs and entrants, as definitions see them

abbrev pub pair_of : Pair → Named
pair_of pair = record { user = pair.user.now; subtree = pair.subtree.now }

abbrev pub entering : Entrant → Entering
entering each = record { user = each.pair.user.now; subtree = each.pair.subtree.now; at = each.at }

-- ---- ways

abbrev pub no_ways : Ways
no_ways = record { owner = false; group = false; others = false; inside = false; outside = false }

-- and those of one more user
abbrev pub ways_with : Ways → Identity → Entry → Ways
ways_with ways user entry = record {
  owner = ways.owner || is_by Owner entry user;
  group = ways.group || is_by Group entry user;
  others = ways.others || is_by Others entry user;
  inside = ways.inside || in_group user entry.gid;
  outside = ways.outside || not (in_group user entry.gid);
}

-- whether they say all of an entry that one more user would add
abbrev pub tells : Ways → Identity → Entry → Bool
tells ways user entry =
    cond (owns user entry) ways.owner (cond (in_group user entry.gid) ways.group ways.others)
    && cond (in_group user entry.gid) ways.inside ways.outside

-- ---- those of each entry

-- an entry's path and the text of its name
abbrev pub Key : Type 0
Key = Names × Bor (List ℕ)

abbrev pub key_cmp : Key → Key → Ordering
key_cmp key other = ordering_then (path_cmp key.0 other.0) (slice_cmp nat_cmp key.1.now other.1.now)

-- whether it is the entry of a key that lets one in
abbrev pub is_keyed : Key → Entering → Bool
is_keyed key each = same_path (take each.at.len each.subtree) key.0 && same_name (entry_text each.at.name) key.1.now

-- by what all those who get in do
abbrev pub ways_among : List Entering → Ways
ways_among all = record {
  owner = list_any (λ each. is_by Owner each.at.entry each.user) all;
  group = list_any (λ each. is_by Group each.at.entry each.user) all;
  others = list_any (λ each. is_by Others each.at.entry each.user) all;
  inside = list_any (λ each. in_group each.user each.at.entry.gid) all;
  outside = list_any (λ each. not (in_group each.user each.at.entry.gid)) all;
}

abbrev pub ways_at : Key → List Entering → Ways
ways_at key all = ways_among (filter (is_keyed key) all)

-- A map has the ways of each entry that lets one in.
abbrev pub AreGathered : BTreeMap Key Ways → List Entering → Type 0
AreGathered ways all = (key : Key) → unwrap_or (get key_cmp ways key) no_ways ≡ ways_at key all

-- the lines of an entry that lets one in, by the ways of all who get in there
abbrev pub gathered_lines : List Entering → Entering → List ℕ
gathered_lines all each = lines_by (ways_at (take each.at.len each.subtree, record { ref_ptr = (0, 0); now = entry_text each.at.name }) all) each.subtree each.at
