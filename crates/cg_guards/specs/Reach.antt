-- How an answer is found: nobody has to believe it.
-- The uids and gids of some users, and the entries that none of these users reaches.
use Rattle.std.specs.Prelude.{◌≡◌, ℕ, Bool, true, false, not, ◌&&◌, ◌||◌, nat_eq, List, Option, Some, None}
use Rattle.std.specs.List.{list_any}
use Rattle.std.specs.Ordering.{nat_cmp}
use Rattle.std.specs.BTreeSet.{contains}
use Rattle.cg_cgroup.specs.Identity.{Identity}
use Rattle.cg_cgroup.specs.Users.{in_group, has_bit}
use Rattle.cg_cgroup.specs.declared.user.Entry.{Entry}
use Rattle.cg_guards.specs.GuardedUsers.{AreSpared}
use Rattle.cg_guards.specs.declared.identities.Identities.{Identities}

-- They are those of the users.
pub record AreIdentitiesOf (identities : Identities) (users : List Identity) : Type 0 where
  pub uids : (uid : ℕ) → contains nat_cmp identities.uids uid ≡ list_any (λ user. nat_eq uid user.uid) users
  pub gids : (gid : ℕ) → contains nat_cmp identities.gids gid ≡ list_any (λ user. in_group user gid) users

-- all others write the entry, or its owner may be one of the users, or its group writes it and one of them may be in it
abbrev pub may_reach : Identities → Entry → Bool
may_reach identities entry =
    has_bit entry.mode 2 || contains nat_cmp identities.uids entry.uid || has_bit entry.mode 16 && contains nat_cmp identities.gids entry.gid

-- none of the users may reach the entry, where their uids and gids are there
abbrev pub is_out_of_reach : Option Identities → Entry → Bool
is_out_of_reach None entry = false
is_out_of_reach (Some identities) entry = not (may_reach identities entry)

-- None of the users reaches an entry that is out of reach.
abbrev pub AreCovered : Option Identities → List Identity → Type 0
AreCovered identities users = (entry : Entry) → is_out_of_reach identities entry ≡ true → AreSpared (Some entry) users
