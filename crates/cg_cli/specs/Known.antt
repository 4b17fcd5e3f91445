-- How an answer is found: nobody has to believe it.
-- The uids and gids of which a tree says something.
use Rattle.std.specs.Prelude.{◌≡◌, ℕ, Bool, ◌&&◌, ◌||◌, List, [], ◌++◌}
use Rattle.std.specs.Ordering.{nat_cmp}
use Rattle.std.specs.BTreeSet.{contains}
use Rattle.cg_cgroup.specs.Identity.{Identity}
use Rattle.cg_cgroup.specs.Users.{owns, in_group, has_bit}
use Rattle.cg_cgroup.specs.declared.user.Entry.{Entry}
use Rattle.cg_cli.specs.Strangers.{has_uid, has_gid}
use Rattle.cg_cli.specs.declared.strangers.Known.{Known}

-- They are those of some entries and some owners of processes.
pub record AreOfEntries (known : Known) (entries : List Entry) (owners : List ℕ) : Type 0 where
  pub uids : (uid : ℕ) → contains nat_cmp known.uids uid ≡ has_uid entries owners uid
  pub gids : (gid : ℕ) → contains nat_cmp known.gids gid ≡ has_gid entries gid

-- those of more entries behind some
abbrev pub AreAdded : Known → Known → List Entry → Type 0
AreAdded old new more = (entries : List Entry) → AreOfEntries old entries [] → AreOfEntries new (entries ++ more) []

-- whether an entry speaks of a user: their uid owns it, or one of their gids writes it as its group
abbrev pub speaks_of : Identity → Entry → Bool
speaks_of user entry = owns user entry || has_bit entry.mode 16 && in_group user entry.gid
