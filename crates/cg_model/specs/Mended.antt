-- What takes an entry from users: root in the owner's place, and then without the bits by which they write. Own.
use Rattle.std.specs.Prelude.{ℕ, Bool, ◌&&◌, not, cond, List, [], ◌∷◌, bit_and}
use Rattle.std.specs.List.{list_any, filter}
use Rattle.cg_cgroup.specs.Identity.{Identity}
use Rattle.cg_cgroup.specs.Users.{in_group, owns}
use Rattle.cg_cgroup.specs.declared.user.Entry.{Entry}
use Rattle.cg_model.specs.declared.mend.Class.{Class}
use Rattle.cg_model.specs.declared.mend.Class.TheVariants.{Owner, Group, Others}

-- whether a user belongs to a class of an entry, and to none before it
abbrev pub is_by : Class → Entry → Identity → Bool
is_by Owner entry user = owns user entry
is_by Group entry user = not (owns user entry) && in_group user entry.gid
is_by Others entry user = not (owns user entry) && not (in_group user entry.gid)

-- The classes by which some users reach an entry.
abbrev pub classes_of : List Identity → Entry → List Class
classes_of users entry = filter (λ class. list_any (is_by class entry) users) (Owner ∷ Group ∷ Others ∷ [])

-- the uid that an entry gets: root's where one of the users owns it
abbrev pub given_uid : List Identity → Entry → ℕ
given_uid users entry = cond (list_any (λ user. owns user entry) users) 0 entry.uid

-- whether one of some users is in a group, and whether one isn't
abbrev pub any_inside : List Identity → ℕ → Bool
any_inside users gid = list_any (λ user. in_group user gid) users

abbrev pub any_outside : List Identity → ℕ → Bool
any_outside users gid = list_any (λ user. not (in_group user gid)) users

-- the mode without 0o020 where that is asked, and without 0o002
abbrev pub without_bits : Bool → Bool → ℕ → ℕ
without_bits group others mode = let left : ℕ = cond group (bit_and mode 495) mode in cond others (bit_and left 509) left

-- the mode that it gets: without 0o020 where one of the users is in its group, and without 0o002 where one isn't
abbrev pub shut_mode : List Identity → Entry → ℕ
shut_mode users entry = without_bits (any_inside users entry.gid) (any_outside users entry.gid) entry.mode

-- The entry taken from the users, in whatever order they stand. Its group stays.
abbrev pub mended : List Identity → Entry → Entry
mended users entry = record { uid = given_uid users entry; gid = entry.gid; mode = shut_mode users entry }
