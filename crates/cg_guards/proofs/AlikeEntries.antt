-- Entries that the same users reach.
use Rattle.std.proofs.Common.{◌≡◌, ℕ, Bool, true, false, ◌&&◌, ◌||◌, nat_eq, bit_and, cond, refl, sym, ap, ◌∙◌, eqb-true}
use Rattle.std.proofs.lemmas.Nat.{and_assoc}
use Rattle.cg_cgroup.specs.Identity.{Identity}
use Rattle.cg_cgroup.specs.Users.{in_group, has_bit, writes, reaches}
use Rattle.cg_cgroup.specs.declared.user.Entry.{Entry}
use Rattle.cg_guards.specs.GuardedUsers.{is_alike}

-- by the owner, the group and the bits
abbrev reach : Bool → Bool → Bool → Bool → Bool → Bool
reach owner member of_owner of_group of_others = cond owner of_owner (cond member of_group of_others) || owner

any_owner : (owner member of_owner other of_group of_others : Bool)
    → reach owner member of_owner of_group of_others ≡ reach owner member other of_group of_others
any_owner true member true true of_group of_others = refl
any_owner true member true false of_group of_others = refl
any_owner true member false true of_group of_others = refl
any_owner true member false false of_group of_others = refl
any_owner false member of_owner other of_group of_others = refl

both_true : (a b : Bool) → a && b ≡ true → (a ≡ true) × (b ≡ true)
both_true true b h = (refl, h)
both_true false b h = let never : ⊥ = cc in absurd never

pub alike-reached : (user : Identity) (entry other : Entry) → is_alike entry other ≡ true → reaches user entry ≡ reaches user other
unfolding writes
alike-reached user entry other is =
    any_owner (nat_eq entry.uid user.uid) (in_group user entry.gid) (has_bit entry.mode 128) (has_bit other.mode 128)
    (has_bit entry.mode 16) (has_bit entry.mode 2)
    ∙ (λ i. reach (nat_eq (uids i) user.uid) (in_group user (gids i)) (has_bit other.mode 128)
    (same_bit 16 (and_assoc 16 entry.mode 18) (and_assoc 16 other.mode 18) i)
    (same_bit 2 (and_assoc 2 entry.mode 18) (and_assoc 2 other.mode 18) i))
  where
    parts : ((nat_eq entry.uid other.uid && nat_eq entry.gid other.gid) ≡ true)
        × (nat_eq (bit_and entry.mode 18) (bit_and other.mode 18) ≡ true)
    parts = both_true (nat_eq entry.uid other.uid && nat_eq entry.gid other.gid) (nat_eq (bit_and entry.mode 18) (bit_and other.mode 18)) is

    owners : (nat_eq entry.uid other.uid ≡ true) × (nat_eq entry.gid other.gid ≡ true)
    owners = both_true (nat_eq entry.uid other.uid) (nat_eq entry.gid other.gid) parts.0

    uids : entry.uid ≡ other.uid
    uids = eqb-true entry.uid other.uid owners.0

    gids : entry.gid ≡ other.gid
    gids = eqb-true entry.gid other.gid owners.1

    bits : bit_and entry.mode 18 ≡ bit_and other.mode 18
    bits = eqb-true (bit_and entry.mode 18) (bit_and other.mode 18) parts.1

    same_bit : (bit : ℕ) → bit_and (bit_and entry.mode 18) bit ≡ bit_and entry.mode bit
        → bit_and (bit_and other.mode 18) bit ≡ bit_and other.mode bit → has_bit entry.mode bit ≡ has_bit other.mode bit
    same_bit bit one two = ap (λ n. nat_eq n bit) (sym one ∙ ap (λ n. bit_and n bit) bits ∙ two)
