-- Who reaches an entry that is taken from users.
use Rattle.std.proofs.Common.{◌≡◌, ℕ, ◌≤◌, Bool, true, false, cond, ◌||◌, not, nat_eq, refl, sym, ap, ◌∙◌, arith, List, length}
use Rattle.std.specs.Prelude.{bit_and, nat_lt, nat_le}
use Rattle.std.specs.List.{list_any}
use Rattle.std.proofs.lemmas.Nat.{and_assoc, and_le_l, and_le_r}
use Rattle.std.proofs.lemmas.Bool.{or_parts, and_parts, ltb-true, eqb-true, false_from_ne_true}
use Rattle.cg_cgroup.specs.Identity.{Identity}
use Rattle.cg_cgroup.specs.Users.{has_bit, owns, writes, reaches, in_group, IsUser}
use Rattle.cg_cgroup.specs.declared.user.Entry.{Entry}
use Rattle.cg_model.specs.Mended.{any_inside, any_outside, without_bits, shut_mode, mended}

-- ---- bits

and_none : (mode : ℕ) → bit_and mode 0 ≡ 0
and_none mode = omega (arith, and_le_r mode 0)

group_off : (mode : ℕ) → has_bit (bit_and mode 495) 16 ≡ false
group_off mode = ap (λ n. nat_eq n 16) (and_assoc 16 mode 495 ∙ and_none mode)

others_off : (mode : ℕ) → has_bit (bit_and mode 509) 2 ≡ false
others_off mode = ap (λ n. nat_eq n 2) (and_assoc 2 mode 509 ∙ and_none mode)

others_kept : (mode : ℕ) → has_bit (bit_and mode 495) 2 ≡ has_bit mode 2
others_kept mode = ap (λ n. nat_eq n 2) (and_assoc 2 mode 495)

pub group_kept : (mode : ℕ) → has_bit (bit_and mode 509) 16 ≡ has_bit mode 16
group_kept mode = ap (λ n. nat_eq n 16) (and_assoc 16 mode 509)

less : (mode bits : ℕ) → mode ≤ 511 → bit_and mode bits ≤ 511
less mode bits small = omega (arith, small, and_le_l mode bits)

pub bits-le : (group others : Bool) (mode : ℕ) → mode ≤ 511 → without_bits group others mode ≤ 511
bits-le true true mode small = less (bit_and mode 495) 509 (less mode 495 small)
bits-le true false mode small = less mode 495 small
bits-le false true mode small = less mode 509 small
bits-le false false mode small = small

pub shut-le : (users : List Identity) (entry : Entry) → entry.mode ≤ 511 → shut_mode users entry ≤ 511
shut-le users entry small = bits-le (any_inside users entry.gid) (any_outside users entry.gid) entry.mode small

-- the group's bit where it goes, and the others'
pub group_shut : (others : Bool) (mode : ℕ) → has_bit (without_bits true others mode) 16 ≡ false
group_shut true mode = group_kept (bit_and mode 495) ∙ group_off mode
group_shut false mode = group_off mode

pub others_shut : (group : Bool) (mode : ℕ) → has_bit (without_bits group true mode) 2 ≡ false
others_shut true mode = others_off (bit_and mode 495)
others_shut false mode = others_off mode

-- a bit that isn't there isn't afterwards
pub group_stays : (group others : Bool) (mode : ℕ) → has_bit mode 16 ≡ false → has_bit (without_bits group others mode) 16 ≡ false
group_stays true others mode off = group_shut others mode
group_stays false true mode off = group_kept mode ∙ off
group_stays false false mode off = off

pub others_stays : (group others : Bool) (mode : ℕ) → has_bit mode 2 ≡ false → has_bit (without_bits group others mode) 2 ≡ false
others_stays group true mode off = others_shut group mode
others_stays true false mode off = others_kept mode ∙ off
others_stays false false mode off = off

-- ---- who reaches it

-- root's uid is no user's
pub nobodys : (user : Identity) → IsUser user → nat_eq 0 user.uid ≡ false
nobodys user is =
    let positive = ltb-true 0 user.uid (and_parts (nat_lt 0 user.uid) (nat_le (length user.gids) 32) is).0 in
    false_from_ne_true (nat_eq 0 user.uid) (λ same. let zero_uid = eqb-true 0 user.uid same in omega (arith, positive, zero_uid))

-- one of some users: whatever test they pass, one of these does
abbrev pub IsOneOf : Identity → List Identity → Type 0
IsOneOf user users = (test : Identity → Bool) → test user ≡ true → list_any test users ≡ true

-- who doesn't own it and whose class doesn't write doesn't reach it
pub not_reaching : (user : Identity) (entry : Entry) → owns user entry ≡ false
    → cond (in_group user entry.gid) (has_bit entry.mode 16) (has_bit entry.mode 2) ≡ false → reaches user entry ≡ false
unfolding writes
not_reaching user entry stranger shut =
    ap (λ b. cond b (has_bit entry.mode 128) (cond (in_group user entry.gid) (has_bit entry.mode 16) (has_bit entry.mode 2)) || b) stranger
    ∙ ap (λ b. b || false) shut

pub not_writing : (user : Identity) (entry : Entry) → writes user entry ≡ false → owns user entry ≡ false
    → cond (in_group user entry.gid) (has_bit entry.mode 16) (has_bit entry.mode 2) ≡ false
unfolding writes
not_writing user entry off stranger =
    sym (ap (λ b. cond b (has_bit entry.mode 128) (cond (in_group user entry.gid) (has_bit entry.mode 16) (has_bit entry.mode 2))) stranger)
    ∙ off

module _ (users : List Identity) (entry : Entry) where
  abbrev inside : Bool
  inside = any_inside users entry.gid

  abbrev outside : Bool
  outside = any_outside users entry.gid

  -- whoever didn't own it doesn't, and no user does who is one of these
  not_owned : (other : Identity) → IsUser other → (list_any (λ user. owns user entry) users ≡ false → owns other entry ≡ false)
      → owns other (mended users entry) ≡ false
  not_owned other is kept =
      elim (list_any (λ user. owns user entry) users) as
      (λ b. (b ≡ false → owns other entry ≡ false) → nat_eq (cond b 0 entry.uid) other.uid ≡ false) [
        | true ↦ λ _. nobodys other is
        | false ↦ λ kept. kept refl
      ] kept

  shut_to_user : (user : Identity) → IsOneOf user users
      → cond (in_group user entry.gid) (has_bit (shut_mode users entry) 16) (has_bit (shut_mode users entry) 2) ≡ false
  shut_to_user user among =
      elim (in_group user entry.gid) as
      (λ b. in_group user entry.gid ≡ b → cond b (has_bit (shut_mode users entry) 16) (has_bit (shut_mode users entry) 2) ≡ false) [
        | true ↦ λ is.
            ap (λ b. has_bit (without_bits b outside entry.mode) 16) (among (λ one. in_group one entry.gid) is)
            ∙ group_shut outside entry.mode
        | false ↦ λ is.
            ap (λ b. has_bit (without_bits inside b entry.mode) 2) (among (λ one. not (in_group one entry.gid)) (ap not is))
            ∙ others_shut inside entry.mode
      ] refl

  shut_stays : (member : Bool) → cond member (has_bit entry.mode 16) (has_bit entry.mode 2) ≡ false
      → cond member (has_bit (shut_mode users entry) 16) (has_bit (shut_mode users entry) 2) ≡ false
  shut_stays true off = group_stays inside outside entry.mode off
  shut_stays false off = others_stays inside outside entry.mode off

  owned_by_one : (user : Identity) → IsOneOf user users → list_any (λ one. owns one entry) users ≡ false → owns user entry ≡ false
  owned_by_one user among none =
      false_from_ne_true (owns user entry) (λ owned. let never : ⊥ = cc (among (λ one. owns one entry) owned, none) in absurd never)

  -- no user reaches what was taken from them
  pub off-mended : (user : Identity) → IsUser user → IsOneOf user users → reaches user (mended users entry) ≡ false
  off-mended user is among =
      not_reaching user (mended users entry) (not_owned user is (owned_by_one user among)) (shut_to_user user among)

  -- and nobody reaches it who didn't
  pub less-mended : (other : Identity) → IsUser other → reaches other entry ≡ false → reaches other (mended users entry) ≡ false
  less-mended other is off =
      let parts = or_parts (writes other entry) (owns other entry) off in
      not_reaching other (mended users entry) (not_owned other is (λ _. parts.1))
      (shut_stays (in_group other entry.gid) (not_writing other entry parts.0 parts.1))
