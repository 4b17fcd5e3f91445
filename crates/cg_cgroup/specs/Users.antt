-- Users, and who writes and who owns an entry.
use Rattle.std.specs.Prelude.{ℕ, Bool, IsTrue, ◌&&◌, ◌||◌, nat_eq, nat_lt, nat_le, cond, List, [], ◌∷◌, length, unwrap_or, bit_and, bit_or, Option, Some, None}
use Rattle.std.specs.List.{list_any}
use Rattle.cg_cgroup.specs.Identity.{Identity}
use Rattle.cg_cgroup.specs.declared.user.Entry.{Entry}

-- Own: a user isn't uid 0 and has at most 32 groups.
abbrev pub is_user : Identity → Bool
is_user user = nat_lt 0 user.uid && nat_le (length user.gids) 32

abbrev pub IsUser : Identity → Type 0
IsUser user = IsTrue (is_user user)

-- the user of a uid and gids, where they are a user's
abbrev pub user_of : ℕ → List ℕ → Option Identity
user_of uid gids = let user : Identity = record { uid = uid; gids = gids } in cond (is_user user) (Some user) None

abbrev pub in_group : Identity → ℕ → Bool
in_group user gid = list_any (λ own. nat_eq own gid) user.gids

abbrev pub primary : Identity → Option ℕ
primary user = elim user.gids [ [] ↦ None | gid ∷ gids ↦ Some gid ]

-- The group of what a user makes: their primary group, or group 0 where they have none. Own.
abbrev pub group_of : Identity → ℕ
group_of user = unwrap_or (primary user) 0

-- Own: what a user makes belongs to them and to that group.
abbrev pub entry_made_by : Identity → ℕ → Entry
entry_made_by user mode = record { uid = user.uid; gid = group_of user; mode = mode }

-- Own: the owner of an entry is the user of its uid.
abbrev pub owns : Identity → Entry → Bool
owns user entry = nat_eq entry.uid user.uid

-- Whether a mode has a bit, which is a power of two.
abbrev pub has_bit : ℕ → ℕ → Bool
has_bit mode bit = nat_eq (bit_and mode bit) bit

-- Own: the mode with the owner's bit set.
abbrev pub opened : ℕ → ℕ
opened mode = bit_or mode 128

-- Own: the first class that matches decides, the owner's 0o200, the group's 0o020 or the others' 0o002.
unfoldable pub writes : Identity → Entry → Bool
writes user entry =
    cond (owns user entry) (has_bit entry.mode 128) (cond (in_group user entry.gid) (has_bit entry.mode 16) (has_bit entry.mode 2))

-- What a user writes, or can open to themselves.
abbrev pub reaches : Identity → Entry → Bool
reaches user entry = writes user entry || owns user entry
