-- A subtree against everybody but root, whoever there is: whom each guarded entry lets in. Own.
use Rattle.std.specs.Prelude.{◌≡◌, ℕ, ◌<◌, Bool, true, false, not, ◌||◌, ◌&&◌, cond, nat_eq, List, length, take}
use Rattle.std.specs.List.{AllByRecursion, list_any}
use Rattle.cg_cgroup.specs.Identity.{Identity}
use Rattle.cg_cgroup.specs.Paths.{Names, parent}
use Rattle.cg_cgroup.specs.Users.{in_group, owns, has_bit}
use Rattle.cg_cgroup.specs.declared.user.Entry.{Entry}
use Rattle.machine.specs.Machines.{Procs, Control, Dir, Limit, Machine, entry_is, Fits}

-- Whom it is asked about: everybody but root and some further uids. Of a group that is listed nobody is a member but who stands there; of
-- any other everybody may be.
pub record Everybody : Type 0 where
  pub but : List ℕ
  pub groups : List (ℕ × List ℕ)

abbrev pub is_left_out : Everybody → ℕ → Bool
is_left_out asked uid = nat_eq uid 0 || list_any (λ other. nat_eq other uid) asked.but

abbrev pub is_listed : Everybody → ℕ → Bool
is_listed asked gid = list_any (λ group. nat_eq group.0 gid) asked.groups

-- Whether one of the lists of a group has a uid that passes a test.
abbrev pub has_listed : Everybody → ℕ → (ℕ → Bool) → Bool
has_listed asked gid test = list_any (λ group. nat_eq group.0 gid && list_any test group.1) asked.groups

-- A user who isn't left out, and is in no listed group but as a member.
pub record IsAsked (asked : Everybody) (user : Identity) : Type 0 where
  pub real : is_left_out asked user.uid ≡ false
  pub member : (gid : ℕ) → in_group user gid ≡ true → is_listed asked gid ≡ true → has_listed asked gid (nat_eq user.uid) ≡ true

-- Of an entry: its owner, the members of its group but the owner, and who is neither. The first that matches decides.
pub data Class : Type 0 where
  Owner : Class
  Members : Class
  Others : Class

abbrev pub entry_class : Identity → Entry → Class
entry_class user entry = cond (owns user entry) Owner (cond (in_group user entry.gid) Members Others)

-- Whether a uid isn't left out, and isn't the owner's.
abbrev pub is_other : Everybody → Entry → ℕ → Bool
is_other asked entry uid = not (is_left_out asked uid) && not (nat_eq uid entry.uid)

-- Whether such a one may be in an entry's group.
abbrev pub has_members : Everybody → Entry → Bool
has_members asked entry = not (is_listed asked entry.gid) || has_listed asked entry.gid (is_other asked entry)

-- An owner may set the mode first.
abbrev pub lets_class_in : Everybody → Entry → Class → Bool
lets_class_in asked entry Owner = not (is_left_out asked entry.uid)
lets_class_in asked entry Members = has_bit entry.mode 16 && has_members asked entry
lets_class_in asked entry Others = has_bit entry.mode 2

abbrev pub lets_anybody_in : Everybody → Entry → Bool
lets_anybody_in asked entry = lets_class_in asked entry Owner || (lets_class_in asked entry Members || lets_class_in asked entry Others)

-- No guarded entry of a subtree passes a test.
pub record NoneGuarded (machine : Machine) (subtree : Names) (test : Entry → Bool) : Type 0 where
  pub above : (len : ℕ) → len < length subtree → entry_is machine (take len subtree) Procs test ≡ false
  pub limits : (limit : ℕ) → entry_is machine subtree (Limit limit) test ≡ false
  pub control : entry_is machine (parent subtree) Control test ≡ false
  pub dir : entry_is machine (parent subtree) Dir test ≡ false

-- What is guarded lets nobody in who is asked about.
pub record IsGuardedAgainstEverybody (machine : Machine) (asked : Everybody) (subtree : Names) : Type 0 where
  pub closed : NoneGuarded machine subtree (lets_anybody_in asked)
  pub fits : Fits machine subtree

-- Of nothing that is guarded a user is in a class that it lets in.
abbrev pub IsInNoClass : Machine → Everybody → Names → Identity → Type 0
IsInNoClass machine asked subtree user = NoneGuarded machine subtree (λ entry. lets_class_in asked entry (entry_class user entry))

abbrev pub AreInNoClass : Machine → Everybody → Names → List Identity → Type 0
AreInNoClass machine asked subtree users = AllByRecursion (λ user. IsAsked asked user × IsInNoClass machine asked subtree user) users
