-- What the uids and gids of some users say of the entries that these users reach.
use Rattle.std.proofs.Common.{◌≡◌, ℕ, zero, suc, ◌+◌, ◌<◌, Bool, true, false, not, ◌&&◌, ◌||◌, nat_eq, cond, List, [], ◌∷◌, length, take, drop, get_or, Option, Some, None, refl, sym, ap, ◌∙◌}
use Rattle.std.specs.List.{take_while, list_any}
use Rattle.std.specs.Ordering.{nat_cmp, eq_by_cmp}
use Rattle.std.specs.BTreeSet.{contains}
use Rattle.std.specs.Cmp.{unsigned_tied, nat_eq_equiv}
use Rattle.std.proofs.lemmas.List.Folds.{list_any_more}
use Rattle.std.proofs.lemmas.List.Sums.{take_while-cons}
use Rattle.cg_cgroup.specs.Identity.{Identity}
use Rattle.cg_cgroup.specs.Users.{in_group, has_bit, writes}
use Rattle.cg_cgroup.specs.declared.user.Entry.{Entry}
use Rattle.cg_guards.specs.GuardedUsers.{is_spared, AreSpared}
use Rattle.cg_guards.specs.Reach.{AreIdentitiesOf, may_reach, is_out_of_reach, AreCovered}
use Rattle.cg_guards.specs.declared.identities.Identities.{Identities}
use Rattle.cg_guards.proofs.KeptOff.{while_both}

pub of_none : (identities : Identities) → identities.uids.keys ≡ [] → identities.gids.keys ≡ [] → AreIdentitiesOf identities []
of_none identities uids gids = record { uids = λ uid. ap (list_any _) uids; gids = λ gid. ap (list_any _) gids }

-- ---- one user more

turned : (x y : ℕ) → eq_by_cmp nat_cmp x y ≡ nat_eq y x
turned x y = unsigned_tied x y ∙ nat_eq_equiv.symm x y

pub of_more : (before after : Identities) (users : List Identity) (i : ℕ) (user : Identity) → i < length users → user ≡ get_or users i user
    → AreIdentitiesOf before (take i users)
    → ((uid : ℕ) → contains nat_cmp after.uids uid ≡ cond (eq_by_cmp nat_cmp user.uid uid) true (contains nat_cmp before.uids uid))
    → ((gid : ℕ) → contains nat_cmp after.gids gid ≡ (contains nat_cmp before.gids gid || list_any (eq_by_cmp nat_cmp gid) user.gids))
    → AreIdentitiesOf after (take (i + 1) users)
of_more before after users i user within at of uids gids = record {
  uids =
      λ uid. uids uid ∙ (λ j. cond (turned user.uid uid j) true (of.uids uid j))
      ∙ last (nat_eq uid user.uid) (list_any (λ other. nat_eq uid other.uid) (take i users))
      ∙ sym (one_more (λ other. nat_eq uid other.uid));
  gids =
      λ gid. gids gid ∙ (λ j. of.gids gid j || list_any (λ own. turned gid own j) user.gids) ∙ sym (one_more (λ other. in_group other gid));
}
  where
    last : (a b : Bool) → cond a true b ≡ b || a
    last true true = refl
    last true false = refl
    last false true = refl
    last false false = refl

    one_more : (p : Identity → Bool) → list_any p (take (i + 1) users) ≡ list_any p (take i users) || p user
    one_more p = list_any_more p users i user within ∙ ap (λ one. list_any p (take i users) || p one) (sym at)

-- ---- users out of reach

either_false : (a b : Bool) → a || b ≡ false → (a ≡ false) × (b ≡ false)
either_false true b h = let never : ⊥ = cc in absurd never
either_false false b h = (refl, h)

-- a user who neither owns the entry nor writes it as one of its group or as another
strange : (user : Identity) (entry : Entry) → nat_eq entry.uid user.uid ≡ false → has_bit entry.mode 16 && in_group user entry.gid ≡ false
    → has_bit entry.mode 2 ≡ false → is_spared (Some entry) user ≡ true
unfolding writes
strange user entry owned member shut =
    by_tests (nat_eq entry.uid user.uid) (in_group user entry.gid) (has_bit entry.mode 16) (has_bit entry.mode 2) owned member shut
  where
    by_tests : (owner member of_group of_others : Bool) → owner ≡ false → of_group && member ≡ false → of_others ≡ false
        → not (cond owner (has_bit entry.mode 128) (cond member of_group of_others) || owner) ≡ true
    by_tests true member of_group of_others h k l = cc
    by_tests false true true of_others h k l = cc
    by_tests false true false of_others h k l = refl
    by_tests false false of_group true h k l = cc
    by_tests false false of_group false h k l = refl

strangers : (entry : Entry) (users : List Identity) → list_any (λ user. nat_eq entry.uid user.uid) users ≡ false
    → has_bit entry.mode 16 && list_any (λ user. in_group user entry.gid) users ≡ false → has_bit entry.mode 2 ≡ false
    → AreSpared (Some entry) users
strangers entry [] owned member shut = refl
strangers entry (user ∷ users) owned member shut =
    take_while-cons (is_spared (Some entry)) user users
    ∙ ap (λ b. cond b (user ∷ take_while (is_spared (Some entry)) users) []) (strange user entry owners.0 members.0 shut)
    ∙ ap (λ rest. user ∷ rest) (strangers entry users owners.1 members.1 shut)
  where
    owners : (nat_eq entry.uid user.uid ≡ false) × (list_any (λ other. nat_eq entry.uid other.uid) users ≡ false)
    owners = either_false _ _ owned

    apart : (of_group one others : Bool) → of_group && (one || others) ≡ false → (of_group && one ≡ false) × (of_group && others ≡ false)
    apart true one others h = either_false one others h
    apart false one others h = (refl, refl)

    members : (has_bit entry.mode 16 && in_group user entry.gid ≡ false)
        × (has_bit entry.mode 16 && list_any (λ other. in_group other entry.gid) users ≡ false)
    members = apart (has_bit entry.mode 16) (in_group user entry.gid) (list_any (λ other. in_group other entry.gid) users) member

pub are_covered : (identities : Identities) (users : List Identity) → AreIdentitiesOf identities users → AreCovered (Some identities) users
are_covered identities users of entry out =
    strangers entry users (sym (of.uids entry.uid) ∙ owned.1) (ap (λ b. has_bit entry.mode 16 && b) (sym (of.gids entry.gid)) ∙ parts.1)
    owned.0
  where
    is_false : (b : Bool) → not b ≡ true → b ≡ false
    is_false true h = sym h
    is_false false h = refl

    parts : (has_bit entry.mode 2 || contains nat_cmp identities.uids entry.uid ≡ false)
        × (has_bit entry.mode 16 && contains nat_cmp identities.gids entry.gid ≡ false)
    parts = either_false (has_bit entry.mode 2 || contains nat_cmp identities.uids entry.uid) _ (is_false (may_reach identities entry) out)

    owned : (has_bit entry.mode 2 ≡ false) × (contains nat_cmp identities.uids entry.uid ≡ false)
    owned = either_false (has_bit entry.mode 2) _ parts.0

-- ---- the front of covered users, and those behind some

pub front_spared : (before : Option Entry) (p : Identity → Bool) (users next : List Identity) → next ≡ take_while p users
    → AreSpared before users → AreSpared before next
front_spared before p users next is spared =
    ap (take_while (is_spared before)) is ∙ while_both p (is_spared before) users
    ∙ ap (λ q. take_while q users) (λ i user. swapped (p user) (is_spared before user) i)
    ∙ sym (while_both (is_spared before) p users) ∙ ap (take_while p) spared ∙ sym is
  where
    swapped : (a b : Bool) → a && b ≡ b && a
    swapped true true = refl
    swapped true false = refl
    swapped false true = refl
    swapped false false = refl

pub front_covered : (identities : Option Identities) (p : Identity → Bool) (users next : List Identity) → next ≡ take_while p users
    → AreCovered identities users → AreCovered identities next
front_covered identities p users next is covered = λ entry out. front_spared (Some entry) p users next is (covered entry out)

drop_spared : (before : Option Entry) (n : ℕ) (users : List Identity) → AreSpared before users → AreSpared before (drop n users)
drop_spared before zero users spared = spared
drop_spared before (suc n) [] spared = spared
drop_spared before (suc n) (user ∷ users) spared =
    drop_spared before n users (by_first (is_spared before user) (sym (take_while-cons (is_spared before) user users) ∙ spared))
  where
    by_first : (first : Bool) → cond first (user ∷ take_while (is_spared before) users) [] ≡ user ∷ users → AreSpared before users
    by_first true same = cc
    by_first false same = let never : ⊥ = cc in absurd never

pub drop_covered : (identities : Option Identities) (n : ℕ) (users : List Identity) → AreCovered identities users
    → AreCovered identities (drop n users)
drop_covered identities n users covered = λ entry out. drop_spared (Some entry) n users (covered entry out)

pub none_covered : (users : List Identity) → AreCovered None users
none_covered users = λ entry out. let never : ⊥ = cc in absurd never

pub out_spares : (identities : Option Identities) (entry : Entry) (users : List Identity) → is_out_of_reach identities entry ≡ true
    → AreCovered identities users
    → users ≡ take_while (is_spared (Some entry)) users
out_spares identities entry users out covered = sym (covered entry out)
