-- Which users an entry lets in.
use Rattle.std.proofs.Common.{◌≡◌, ℕ, Bool, true, false, true≢false, not, cond, ◌&&◌, [], ◌∷◌, refl, sym, ap, ◌∙◌, nat_eq, eqb-true, eq-eqb, subst}
use Rattle.std.specs.Prelude.{◌||◌}
use Rattle.std.specs.List.{list_any}
use Rattle.cg_cgroup.specs.Identity.{Identity}
use Rattle.cg_cgroup.specs.Users.{in_group, owns, has_bit, writes, reaches}
use Rattle.cg_cgroup.specs.declared.user.Entry.{Entry}
use Rattle.machine_everybody.specs.Everybody.{Everybody, is_left_out, is_listed, has_listed, is_other, has_members, IsAsked, Class, entry_class, lets_class_in, lets_anybody_in}
use Rattle.machine_everybody.specs.Everybody as class
use Rattle.machine_everybody.proofs.Members.{or_true, or_false, both, neither, is_not, differ, flipped, fresh, listed_one, listed_for}

module _ (asked : Everybody) where
  -- ---- by classes

  -- who is in an entry's group, and isn't its owner, shows that somebody is
  a_member : (user : Identity) (entry : Entry) → IsAsked asked user → owns user entry ≡ false → in_group user entry.gid ≡ true
      → has_members asked entry ≡ true
  a_member user entry real stranger member =
      elim (is_listed asked entry.gid) as (λ b. is_listed asked entry.gid ≡ b
      → (not b || has_listed asked entry.gid (is_other asked entry)) ≡ true) [
        | true ↦ λ is. listed_for asked entry.gid (nat_eq user.uid) (is_other asked entry) of_user (real.member entry.gid member is)
        | false ↦ λ is. refl
      ] refl
    where
      apart : nat_eq user.uid entry.uid ≡ false
      apart = flipped entry.uid user.uid stranger

      of_user : (uid : ℕ) → nat_eq user.uid uid ≡ true → is_other asked entry uid ≡ true
      of_user uid is =
          subst (λ n. is_other asked entry n ≡ true) (eqb-true user.uid uid is)
          (ap (λ b. not b && not (nat_eq user.uid entry.uid)) real.real ∙ ap not apart)

  pub reached : (user : Identity) (entry : Entry) → IsAsked asked user
      → reaches user entry ≡ lets_class_in asked entry (entry_class user entry)
  unfolding writes
  reached user entry real =
      elim (owns user entry) as (λ b. owns user entry ≡ b
      → (cond b (has_bit entry.mode 128) (cond (in_group user entry.gid) (has_bit entry.mode 16) (has_bit entry.mode 2)) || b)
      ≡ lets_class_in asked entry (cond b class.Owner (cond (in_group user entry.gid) class.Members class.Others))) [
        | true ↦ λ is. or_true (has_bit entry.mode 128)
            ∙ sym (ap not (ap (is_left_out asked) (eqb-true entry.uid user.uid is) ∙ real.real))
        | false ↦ λ is.
            or_false (cond (in_group user entry.gid) (has_bit entry.mode 16) (has_bit entry.mode 2))
            ∙ by_group is (in_group user entry.gid) refl
      ] refl
    where
      and_true : (a b : Bool) → b ≡ true → a ≡ (a && b)
      and_true true b is = sym is
      and_true false b is = refl

      by_group : owns user entry ≡ false → (b : Bool) → in_group user entry.gid ≡ b
          → cond b (has_bit entry.mode 16) (has_bit entry.mode 2) ≡ lets_class_in asked entry (cond b class.Members class.Others)
      by_group stranger true is = and_true (has_bit entry.mode 16) (has_members asked entry) (a_member user entry real stranger is)
      by_group stranger false is = refl

  -- ---- somebody

  class_in : (entry : Entry) (it : Class) → lets_anybody_in asked entry ≡ false → lets_class_in asked entry it ≡ false
  class_in entry it none =
      let first = neither (lets_class_in asked entry class.Owner)
      (lets_class_in asked entry class.Members || lets_class_in asked entry class.Others) none in
      let second = neither (lets_class_in asked entry class.Members) (lets_class_in asked entry class.Others) first.1 in
      by_each it first.0 second.0 second.1
    where
      by_each : (it : Class) → lets_class_in asked entry class.Owner ≡ false → lets_class_in asked entry class.Members ≡ false
          → lets_class_in asked entry class.Others ≡ false → lets_class_in asked entry it ≡ false
      by_each class.Owner owner members others = owner
      by_each class.Members owner members others = members
      by_each class.Others owner members others = others

  pub nobody : (user : Identity) (entry : Entry) → IsAsked asked user → lets_anybody_in asked entry ≡ false → reaches user entry ≡ false
  nobody user entry real none = reached user entry real ∙ class_in entry (entry_class user entry) none

  -- ---- whoever is in a class that is let in: its owner, somebody else in its group, and somebody who is in no group

  abbrev in_no_group : ℕ → Identity
  in_no_group uid = record { uid = uid; gids = [] }

  abbrev in_one : ℕ → ℕ → Identity
  in_one uid gid = record { uid = uid; gids = gid ∷ [] }

  asked_in_no_group : (uid : ℕ) → is_left_out asked uid ≡ false → IsAsked asked (in_no_group uid)
  asked_in_no_group uid real = record { real = real; member = λ gid within listed. absurd (true≢false (sym within)) }

  asked_in_one : (uid gid : ℕ) → is_left_out asked uid ≡ false
      → (is_listed asked gid ≡ true → has_listed asked gid (nat_eq uid) ≡ true) → IsAsked asked (in_one uid gid)
  asked_in_one uid gid real member = record {
    real = real;
    member = λ other within listed.
        let same : gid ≡ other = eqb-true gid other (sym (or_false (nat_eq gid other)) ∙ within) in
        subst (λ g. is_listed asked g ≡ true → has_listed asked g (nat_eq uid) ≡ true) same member listed;
  }

  -- there is always somebody who is asked about
  pub someone : (user : Identity) × IsAsked asked user
  someone =
      let one = fresh asked.but in (
        in_no_group one.0,
        asked_in_no_group one.0
            (ap (λ b. b || list_any (λ other. nat_eq other one.0) asked.but) (differ one.0 0 one.1) ∙ one.2),
      )

  module _ (entry : Entry) where
    is_owner : entry_class (in_no_group entry.uid) entry ≡ class.Owner
    is_owner = ap (λ b. cond b class.Owner class.Others) (eq-eqb entry.uid entry.uid refl)

    is_none : (uid : ℕ) → nat_eq uid entry.uid ≡ false → entry_class (in_no_group uid) entry ≡ class.Others
    is_none uid apart =
        ap (λ b. cond b class.Owner class.Others)
        (flipped uid entry.uid apart)

    is_member : (uid : ℕ) → nat_eq uid entry.uid ≡ false → entry_class (in_one uid entry.gid) entry ≡ class.Members
    is_member uid apart =
        ap (λ b. cond b class.Owner (cond (nat_eq entry.gid entry.gid || false) class.Members class.Others))
        (flipped uid entry.uid apart)
        ∙ ap (λ b. cond (b || false) class.Members class.Others) (eq-eqb entry.gid entry.gid refl)

    -- somebody who isn't left out and doesn't own it
    stranger : (uid : ℕ) × (is_left_out asked uid ≡ false) × (nat_eq uid entry.uid ≡ false)
    stranger =
        let one = fresh (entry.uid ∷ asked.but) in
        let parts = neither (nat_eq entry.uid one.0) (list_any (λ other. nat_eq other one.0) asked.but) one.2 in (
          one.0,
          ap (λ b. b || list_any (λ other. nat_eq other one.0) asked.but) (differ one.0 0 one.1) ∙ parts.1,
          flipped entry.uid one.0 parts.0,
        )

    abbrev Shows : Class → Type 0
    Shows it = (user : Identity) × IsAsked asked user × (entry_class user entry ≡ it)

    of_group : has_members asked entry ≡ true → Shows class.Members
    of_group some = by_listed (is_listed asked entry.gid) refl some
      where
        by_listed : (b : Bool) → is_listed asked entry.gid ≡ b → (not b || has_listed asked entry.gid (is_other asked entry)) ≡ true
            → Shows class.Members
        by_listed true is some =
            let one = listed_one asked.groups entry.gid (is_other asked entry) some in
            let parts = both (not (is_left_out asked one.0)) (not (nat_eq one.0 entry.uid)) one.1 in (
              in_one one.0 entry.gid,
              asked_in_one one.0 entry.gid (is_not _ parts.0) (λ listed. one.2),
              is_member one.0 (is_not _ parts.1),
            )
        by_listed false is some = (
          in_one stranger.0 entry.gid,
          asked_in_one stranger.0 entry.gid stranger.1 (λ listed. absurd (true≢false (sym listed ∙ is))),
          is_member stranger.0 stranger.2,
        )

    shows : (it : Class) → lets_class_in asked entry it ≡ true → Shows it
    shows class.Owner is = (in_no_group entry.uid, asked_in_no_group entry.uid (is_not _ is), is_owner)
    shows class.Members is = of_group (both (has_bit entry.mode 16) (has_members asked entry) is).1
    shows class.Others is = (in_no_group stranger.0, asked_in_no_group stranger.0 stranger.1, is_none stranger.0 stranger.2)

    pub shown : ((user : Identity) → IsAsked asked user → reaches user entry ≡ false) → lets_anybody_in asked entry ≡ false
    shown none =
        ap (λ b. b || (lets_class_in asked entry class.Members || lets_class_in asked entry class.Others)) (kept_out class.Owner)
        ∙ ap (λ b. b || lets_class_in asked entry class.Others) (kept_out class.Members)
        ∙ kept_out class.Others
      where
        kept_out : (it : Class) → lets_class_in asked entry it ≡ false
        kept_out it =
            elim (lets_class_in asked entry it) as (λ b. lets_class_in asked entry it ≡ b → b ≡ false) [
              | true ↦ λ is.
                  let one = shows it is in
                  absurd (true≢false (sym (ap (lets_class_in asked entry) one.2 ∙ is) ∙ sym (reached one.0 entry one.1) ∙ none one.0 one.1))
              | false ↦ λ is. refl
            ] refl
