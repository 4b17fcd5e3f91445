-- How an answer is found: nobody has to believe it.
-- The users of a list for whom the guards of a subtree hold.
use Rattle.std.specs.Prelude.{◌≡◌, Bool, true, false, not, ◌&&◌, nat_eq, bit_and, List, Option, Some, None, is_none}
use Rattle.std.specs.List.{flat_map, take_while}
use Rattle.cg_cgroup.specs.Paths.{Names}
use Rattle.cg_cgroup.specs.Identity.{Identity}
use Rattle.cg_cgroup.specs.Users.{reaches}
use Rattle.cg_cgroup.specs.declared.user.Entry.{Entry}
use Rattle.cg_model.specs.States.{State}
use Rattle.cg_model.specs.Clauses.{first}
use Rattle.cg_model.specs.Guards.{Guarded, entry_failures}

-- the user reaches no such entry
abbrev pub is_spared : Option Entry → Identity → Bool
is_spared None user = true
is_spared (Some entry) user = not (reaches user entry)

-- the same owner and group, and the same of the bits by which others than the owner write: whoever reaches one reaches the other
abbrev pub is_alike : Entry → Entry → Bool
is_alike entry other = nat_eq entry.uid other.uid && nat_eq entry.gid other.gid && nat_eq (bit_and entry.mode 18) (bit_and other.mode 18)

-- the entry is like the one that was asked before, where there is one
abbrev pub is_asked : Option Entry → Entry → Bool
is_asked None entry = false
is_asked (Some before) entry = is_alike before entry

-- None of the users reaches the entry that was asked before.
abbrev pub AreSpared : Option Entry → List Identity → Type 0
AreSpared before users = take_while (is_spared before) users ≡ users

-- no guard on one of these entries fails for the user
abbrev pub is_kept_off : State → Names → List Guarded → Identity → Bool
is_kept_off st subtree entries user = is_none (first (flat_map (entry_failures st user subtree) entries))

-- those before the first for whom a guard on one of these entries fails
abbrev pub kept_off : State → Names → List Guarded → List Identity → List Identity
kept_off st subtree entries users = take_while (is_kept_off st subtree entries) users
