-- Those who get in without those who get in by nothing new.
use Rattle.std.proofs.Common.{◌≡◌, ℕ, zero, suc, ◌+◌, ◌<◌, ◌≤◌, Bool, true, false, cond, ◌&&◌, ◌||◌, not, List, [], ◌∷◌, ◌++◌, append_assoc, append-nil, map, length, take, drop, get_or, filter, set, refl, sym, ap, ◌∙◌, subst, arith, Option, Some, None, option_and_then}
use Rattle.std.specs.Prelude.{slice_get, unwrap_or}
use Rattle.std.specs.Option.{option_map}
use Rattle.std.proofs.lemmas.Option.{slice_get-map}
use Rattle.std.specs.List.{All, flat_map, list_any}
use Rattle.std.proofs.lemmas.Bool.{and_parts, and_from, not-true}
use Rattle.std.specs.Vec.{with_items}
use Rattle.std.proofs.lemmas.List.{map-append, length-map, with_items_is}
use Rattle.std.proofs.lemmas.List.Concat.{flat_map-append}
use Rattle.std.proofs.lemmas.List.Elements.{filter-append, All-push, All-weaker, All-set, All-get_or}
use Rattle.std.specs.Cmp.Lexicographic.{bytes_decides}
use Rattle.cg_cgroup.specs.Paths.{Names, same_path, same_name}
use Rattle.cg_cgroup.specs.Identity.{Identity}
use Rattle.cg_cgroup.specs.Users.{owns, in_group, reaches}
use Rattle.cg_cgroup.specs.Files.{entry_text}
use Rattle.cg_cgroup.specs.declared.user.Entry.{Entry}
use Rattle.cg_cgroup.proofs.PathOrder.{same_path-is, same_path_refl}
use Rattle.cg_model.specs.States.{State}
use Rattle.cg_model.specs.Once.{once}
use Rattle.cg_model.specs.Clauses.{unless, present}
use Rattle.cg_model.specs.Guards.{Guarded, guarded_entries, standing, IsSubtree}
use Rattle.cg_model.specs.declared.guard.GuardedEntry.{GuardedEntry}
use Rattle.cg_model.specs.Mended.{is_by}
use Rattle.cg_model.specs.declared.mend.Class.TheVariants.{Owner, Group, Others}
use Rattle.cg_model.specs.Mends.{Pair as Named, Entrant as Entering, if_reached, reached_of, entrant, entrants_of, entrants, same_place}
use Rattle.cg_guards.proofs.TableWalk.{walk_turn, drop_all}
use Rattle.cg_model.proofs.OnceLaws.{once_more}
use Rattle.cg_advice.specs.WayLines.{lines_by, Spot}
use Rattle.cg_advice.specs.Ways.{Key, is_keyed, ways_at, no_ways, ways_among, ways_with, tells, gathered_lines}
use Rattle.cg_advice.specs.AdviceLines.{over_lines, pairs_lines}
use Rattle.cg_advice.specs.declared.ways.Ways.{Ways}
use Rattle.cg_advice.specs.declared.pair.Stand.{Stand}
use Rattle.cg_advice.specs.declared.table.Table.{Table}
use Rattle.cg_advice.specs.Thinned.{IsThin, IsThinned, AreTabled, spots_of, spots, spot_of, entered, entered_at, key_at, AreAmong, IsKnown, is_new, joined, AreMet, table_path, is_table_of, IsTable, HaveEntered}
use Rattle.cg_advice.proofs.Gathering.{one_way, ways_more, IsKeyOf, keyed_same_place, same_name-refl, flat_more, all_written}

-- ---- lists with the same first ones

module _ {X K : Type 0} (same : X → X → Bool) (meets : K → X → Bool) (found all : List X) (x : X) (key : K)
    (alike : (y : X) → meets key y ≡ same y x) (thin : IsThin same meets found all) where
  seen : list_any (λ y. same y x) found ≡ list_any (λ y. same y x) all
  seen = (λ i. list_any (λ y. sym (alike y) i) found) ∙ thin.met key ∙ (λ i. list_any (λ y. alike y i) all)

  -- one more of both
  pub thin_more : IsThin same meets (found ++ x ∷ []) (all ++ x ∷ [])
  thin_more = record {
    first =
        once_more same found x
        ∙ (λ i. thin.first i ++ cond (seen i) [] (x ∷ []))
        ∙ sym (once_more same all x);
    met = λ q. one_way (meets q) found x ∙ ap (λ b. b || meets q x) (thin.met q) ∙ sym (one_way (meets q) all x);
  }

  -- one more that is met already
  pub thin_kept : list_any (meets key) all ≡ true → ((q : K) → meets q x ≡ true → list_any (meets q) all ≡ true)
      → IsThin same meets found (all ++ x ∷ [])
  thin_kept there again = record {
    first =
        thin.first ∙ sym (once_more same all x
        ∙ ap (λ b. once same all ++ cond b [] (x ∷ [])) ((λ i. list_any (λ y. sym (alike y) i) all) ∙ there)
        ∙ append-nil (once same all));
    met = λ q. thin.met q ∙ sym (one_way (meets q) all x ∙ told (list_any (meets q) all) (meets q x) (again q));
  }
    where
      told : (b p : Bool) → (p ≡ true → b ≡ true) → b || p ≡ b
      told true p h = refl
      told false true h = sym (h refl)
      told false false h = refl

-- ---- ways, bit by bit

same_bit : (b p : Bool) → (p ≡ true → b ≡ true) → b || p ≡ b
same_bit true p h = refl
same_bit false true h = sym (h refl)
same_bit false false h = refl

more_bit : (b p : Bool) → b ≡ true → b || p ≡ true
more_bit b p is = ap (λ c. c || p) is

both_bits : (a b p : Bool) → (a ≡ true → b ≡ true) → a || p ≡ true → b || p ≡ true
both_bits true b p h is = ap (λ c. c || p) (h refl)
both_bits false true p h is = refl
both_bits false false p h is = is

module _ (some all : Ways) (among : AreAmong some all) (user : Identity) (entry : Entry) where
  -- with one more of the second, and of both
  among_more : AreAmong some (ways_with all user entry)
  among_more = record {
    owner = λ is. more_bit all.owner _ (among.owner is);
    group = λ is. more_bit all.group _ (among.group is);
    others = λ is. more_bit all.others _ (among.others is);
    inside = λ is. more_bit all.inside _ (among.inside is);
    outside = λ is. more_bit all.outside _ (among.outside is);
  }

  among_both : AreAmong (ways_with some user entry) (ways_with all user entry)
  among_both = record {
    owner = λ is. both_bits some.owner all.owner _ among.owner is;
    group = λ is. both_bits some.group all.group _ among.group is;
    others = λ is. both_bits some.others all.others _ among.others is;
    inside = λ is. both_bits some.inside all.inside _ among.inside is;
    outside = λ is. both_bits some.outside all.outside _ among.outside is;
  }

  -- where the first tell it the second do, too
  module _ (told : tells some user entry ≡ true) where
    abbrev o : Bool
    o = owns user entry

    abbrev g : Bool
    g = in_group user entry.gid

    parts : (cond o some.owner (cond g some.group some.others) ≡ true) × (cond g some.inside some.outside ≡ true)
    parts = and_parts (cond o some.owner (cond g some.group some.others)) (cond g some.inside some.outside) told

    by_owner : is_by Owner entry user ≡ true → all.owner ≡ true
    by_owner is = among.owner (sym (ap (λ b. cond b some.owner (cond g some.group some.others)) is) ∙ parts.0)

    by_group : is_by Group entry user ≡ true → all.group ≡ true
    by_group is =
        let these = and_parts (not o) g is in
        among.group (sym (λ i. cond (not-true o these.0 i) some.owner (cond (these.1 i) some.group some.others)) ∙ parts.0)

    by_others : is_by Others entry user ≡ true → all.others ≡ true
    by_others is =
        let these = and_parts (not o) (not g) is in
        among.others (sym (λ i. cond (not-true o these.0 i) some.owner (cond (not-true g these.1 i) some.group some.others)) ∙ parts.0)

    by_inside : g ≡ true → all.inside ≡ true
    by_inside is = among.inside (sym (ap (λ b. cond b some.inside some.outside) is) ∙ parts.1)

    by_outside : not g ≡ true → all.outside ≡ true
    by_outside is = among.outside (sym (ap (λ b. cond b some.inside some.outside) (not-true g is)) ∙ parts.1)

    with_same : ways_with all user entry ≡ all
    with_same = λ i. record {
      owner = same_bit all.owner (is_by Owner entry user) by_owner i;
      group = same_bit all.group (is_by Group entry user) by_group i;
      others = same_bit all.others (is_by Others entry user) by_others i;
      inside = same_bit all.inside g by_inside i;
      outside = same_bit all.outside (not g) by_outside i;
    }

-- ---- those who get in

any_filtered : {A : Type 0} (test other : A → Bool) (xs : List A) → list_any test (filter other xs) ≡ true → list_any other xs ≡ true
any_filtered test other [] is = is
any_filtered test other (x ∷ xs) is =
    elim (other x) as (λ b. list_any test (cond b (x ∷ filter other xs) (filter other xs)) ≡ true → b || list_any other xs ≡ true) [
      | true ↦ λ _. refl
      | false ↦ λ is. any_filtered test other xs is
    ] is

pub ways_one_more : (q : Key) (all : List Entering) (x : Entering)
    → ways_at q (all ++ x ∷ []) ≡ cond (is_keyed q x) (ways_with (ways_at q all) x.user x.at.entry) (ways_at q all)
ways_one_more q all x =
    ap ways_among (filter-append (is_keyed q) all (x ∷ []))
    ∙ elim (is_keyed q x) as (λ b. ways_among (filter (is_keyed q) all ++ cond b (x ∷ []) [])
    ≡ cond b (ways_with (ways_at q all) x.user x.at.entry) (ways_at q all)) [
      | true ↦ ways_more (filter (is_keyed q) all) x
      | false ↦ ap ways_among (append-nil (filter (is_keyed q) all))
    ]

module _ (x : Entering) where
  abbrev own : Key
  own = key_at x.subtree x.at

  own_key : IsKeyOf own x
  own_key = record { path = refl; name = refl }

  keyed_own : is_keyed own x ≡ true
  keyed_own =
      and_from (same_path (take x.at.len x.subtree) (take x.at.len x.subtree)) (same_name (entry_text x.at.name) (entry_text x.at.name))
      (same_path_refl (take x.at.len x.subtree)) (same_name-refl (entry_text x.at.name))

  -- whichever key is its
  keyed_alike : (q : Key) → is_keyed q x ≡ true → (each : Entering) → is_keyed own each ≡ is_keyed q each
  keyed_alike q met each =
      let parts = and_parts (same_path (take x.at.len x.subtree) q.0) (same_name (entry_text x.at.name) q.1.now) met in
      let path = same_path-is (take x.at.len x.subtree) q.0 parts.0 in
      let name = (bytes_decides (entry_text x.at.name) q.1.now).0 parts.1 in
      λ i. same_path (take each.at.len each.subtree) (path i) && same_name (entry_text each.at.name) (name i)

  module _ (found all : List Entering) (thinned : IsThinned found all) where
    -- who gets in by something new
    pub thinned_more : IsThinned (found ++ x ∷ []) (all ++ x ∷ [])
    thinned_more = record {
      thin = thin_more same_place is_keyed found all x own (λ other. keyed_same_place own x other own_key) thinned.thin;
      ways = λ q.
          ways_one_more q found x
          ∙ (λ i. cond (is_keyed q x) (ways_with (thinned.ways q i) x.user x.at.entry) (thinned.ways q i))
          ∙ sym (ways_one_more q all x);
    }

    -- who doesn't
    module _ (some : Ways) (among : AreAmong some (ways_at own found)) (told : tells some x.user x.at.entry ≡ true) where
      met_there : list_any (is_keyed own) found ≡ true
      met_there =
          elim (owns x.user x.at.entry) as (λ b. owns x.user x.at.entry ≡ b → list_any (is_keyed own) found ≡ true) [
            | true ↦ λ is. any_filtered _ (is_keyed own) found (by_owner some (ways_at own found) among x.user x.at.entry told is)
            | false ↦ λ off. elim (in_group x.user x.at.entry.gid) as
                (λ b. in_group x.user x.at.entry.gid ≡ b → list_any (is_keyed own) found ≡ true) [
                  | true ↦ λ is. any_filtered _ (is_keyed own) found
                      (by_group some (ways_at own found) among x.user x.at.entry told (λ i. not (off i) && is i))
                  | false ↦ λ out. any_filtered _ (is_keyed own) found
                      (by_others some (ways_at own found) among x.user x.at.entry told (λ i. not (off i) && not (out i)))
                ] refl
          ] refl

      met_all : list_any (is_keyed own) all ≡ true
      met_all = sym (thinned.thin.met own) ∙ met_there

      ways_same : (q : Key) (b : Bool) → is_keyed q x ≡ b
          → cond b (ways_with (ways_at q found) x.user x.at.entry) (ways_at q found) ≡ ways_at q found
      ways_same q false _ = refl
      ways_same q true met =
          let same : ways_at own found ≡ ways_at q found = λ i. ways_among (filter (λ each. keyed_alike q met each i) found) in
          subst (λ ways. ways_with ways x.user x.at.entry ≡ ways) same
          (with_same some (ways_at own found) among x.user x.at.entry told)

      pub thinned_kept : IsThinned found (all ++ x ∷ [])
      thinned_kept = record {
        thin = thin_kept same_place is_keyed found all x own (λ other. keyed_same_place own x other own_key) thinned.thin met_all
            (λ q met. sym (λ i. list_any (λ each. keyed_alike q met each i) all) ∙ met_all);
        ways = λ q.
            sym (ways_same q (is_keyed q x) refl)
            ∙ (λ i. cond (is_keyed q x) (ways_with (thinned.ways q i) x.user x.at.entry) (thinned.ways q i))
            ∙ sym (ways_one_more q all x);
      }

-- what is known stays so
known_more : (other : Stand) (found : List Entering) (b : Bool) (x : Entering) → IsKnown found other
    → IsKnown (found ++ cond b (x ∷ []) []) other
known_more other found false x known = subst (λ l. IsKnown l other) (sym (append-nil found)) known
known_more other found true x known =
    let q = key_at other.subtree.now other.at in
    subst (AreAmong other.ways) (sym (ways_one_more q found x))
    (elim (is_keyed q x) as (λ b. AreAmong other.ways (cond b (ways_with (ways_at q found) x.user x.at.entry) (ways_at q found))) [
      | true ↦ among_more other.ways (ways_at q found) known x.user x.at.entry
      | false ↦ known
    ])

-- ---- one more user at one entry

module _ (user : Identity) (stand : Stand) where
  abbrev here : Entering
  here = entered user (spot_of stand)

  known_joined : (found : List Entering) → IsKnown found stand
      → AreAmong (joined stand user) (ways_at (own here) (found ++ cond (is_new stand user) (here ∷ []) []))
  known_joined found known =
      elim (is_new stand user) as (λ b. AreAmong (cond b (ways_with stand.ways user stand.at.entry) stand.ways)
      (ways_at (own here) (found ++ cond b (here ∷ []) []))) [
        | true ↦
            subst (AreAmong (ways_with stand.ways user stand.at.entry)) (sym (ways_one_more (own here) found here
            ∙ ap (λ b. cond b (ways_with (ways_at (own here) found) user stand.at.entry) (ways_at (own here) found)) (keyed_own here)))
            (among_both stand.ways (ways_at (own here) found) known user stand.at.entry)
        | false ↦ known_more stand found false here known
      ]

  thinned_entered : (found all : List Entering) → IsKnown found stand → IsThinned found all
      → IsThinned (found ++ cond (is_new stand user) (here ∷ []) []) (all ++ entered_at user (spot_of stand))
  thinned_entered found all known thinned =
      elim (reaches user stand.at.entry) as
      (λ r. IsThinned (found ++ cond (not (tells stand.ways user stand.at.entry) && r) (here ∷ []) []) (all ++ unless (not r) here)) [
        | true ↦ elim (tells stand.ways user stand.at.entry) as (λ t. tells stand.ways user stand.at.entry ≡ t
            → IsThinned (found ++ cond (not t && true) (here ∷ []) []) (all ++ here ∷ [])) [
              | true ↦ λ told. subst (λ l. IsThinned l (all ++ here ∷ [])) (sym (append-nil found))
                  (thinned_kept here found all thinned stand.ways known told)
              | false ↦ λ _. thinned_more here found all thinned
            ] refl
        | false ↦
            subst (λ b. IsThinned (found ++ cond b (here ∷ []) []) (all ++ [])) (sym (never (tells stand.ways user stand.at.entry)))
            (subst (λ l. IsThinned l (all ++ [])) (sym (append-nil found)) (subst (IsThinned found) (sym (append-nil all)) thinned))
      ]
    where
      never : (t : Bool) → not t && false ≡ false
      never true = refl
      never false = refl

-- ---- one more user at each entry of a subtree

set_alike : {A B : Type 0} (f : A → B) (xs : List A) (i : ℕ) (x y : A) → i < length xs → x ≡ get_or xs i x → f y ≡ f x
    → map f (set xs i y) ≡ map f xs
set_alike f [] i x y within is same = refl
set_alike f (z ∷ zs) zero x y within is same = ap (λ b. b ∷ map f zs) (same ∙ ap f is)
set_alike f (z ∷ zs) (suc i) x y within is same = ap (λ l. f z ∷ l) (set_alike f zs i x y (omega (arith, within)) is same)

flat_turn : {A B C : Type 0} (f : B → List C) (g : A → B) (xs : List A) (i : ℕ) (x : A) → i < length xs → x ≡ get_or xs i x
    → flat_map f (take (i + 1) (map g xs)) ≡ flat_map f (take i (map g xs)) ++ f (g x)
flat_turn f g [] i x within is = absurd (omega (arith, within))
flat_turn f g (y ∷ ys) zero x within is = ap (λ z. f (g z) ++ []) (sym is) ∙ append-nil (f (g x))
flat_turn f g (y ∷ ys) (suc i) x within is =
    let e : suc i + 1 ≡ suc (i + 1) = omega arith in
    rw e (ap (λ l. f (g y) ++ l) (flat_turn f g ys i x (omega (arith, within)) is)
    ∙ sym (append_assoc (f (g y)) (flat_map f (take i (map g ys))) (f (g x))))

module _ (user : Identity) (before after more : List Entering) (old new : List Stand) (place : ℕ) (stand : Stand)
    (within : place < length new) (is : stand ≡ get_or new place stand)
    (so_far : AreMet user before after old new (take place (map spot_of old)))
    (found : more ≡ after ++ cond (is_new stand user) (entered user (spot_of stand) ∷ []) []) (later : Stand)
    (spot : spot_of later ≡ spot_of stand) (ways : later.ways ≡ joined stand user) where
  known_on : (other : Stand) → IsKnown after other → IsKnown more other
  known_on other known =
      subst (λ l. IsKnown l other) (sym found) (known_more other after (is_new stand user) (entered user (spot_of stand)) known)

  stand_known : All (IsKnown before) old → IsKnown after stand
  stand_known known = subst (IsKnown after) (sym is) (All-get_or (IsKnown after) new place stand within (so_far.known known))

  turn : (all : List Entering)
      → all ++ flat_map (entered_at user) (take (place + 1) (map spot_of old))
      ≡ (all ++ flat_map (entered_at user) (take place (map spot_of old))) ++ entered_at user (spot_of stand)
  turn all =
      ap (λ l. all ++ flat_map (entered_at user) (take (place + 1) l)) (sym so_far.same)
      ∙ ap (λ l. all ++ l) (flat_turn (entered_at user) spot_of new place stand within is)
      ∙ ap (λ l. all ++ (flat_map (entered_at user) (take place l) ++ entered_at user (spot_of stand))) so_far.same
      ∙ sym (append_assoc all (flat_map (entered_at user) (take place (map spot_of old))) (entered_at user (spot_of stand)))

  later_known : IsKnown after stand → IsKnown more later
  later_known known =
      subst (λ some. AreAmong some (ways_at (key_at later.subtree.now later.at) more)) (sym ways)
      (subst (λ (spot : Spot). AreAmong (joined stand user) (ways_at (key_at spot.0 spot.1) more)) (sym spot)
      (subst (λ all. AreAmong (joined stand user) (ways_at (key_at stand.subtree.now stand.at) all)) (sym found)
      (known_joined user stand after known)))

  pub met_more : AreMet user before more old (set new place later) (take (place + 1) (map spot_of old))
  met_more = record {
    same = set_alike spot_of new place stand later within is spot ∙ so_far.same;
    known = λ known.
        All-set (IsKnown more) new place later (later_known (stand_known known))
        (All-weaker (IsKnown after) (IsKnown more) known_on new (so_far.known known));
    kept = λ other known. known_on other (so_far.kept other known);
    thinned = λ known all thinned.
        subst (IsThinned more) (sym (turn all))
        (subst (λ l. IsThinned l ((all ++ flat_map (entered_at user) (take place (map spot_of old))) ++ entered_at user (spot_of stand)))
        (sym found)
        (thinned_entered user stand after (all ++ flat_map (entered_at user) (take place (map spot_of old))) (stand_known known)
        (so_far.thinned known all thinned)));
  }

-- ---- tables

-- those of a pair, by the entries on which the guards stand
pub entered_spots : (st : State) (pair : Named) (gs : List Guarded)
    → flat_map (entered_at pair.user) (flat_map (spots_of st pair.subtree) gs)
    ≡ map (entrant pair) (flat_map (reached_of st pair.user pair.subtree) gs)
entered_spots st pair [] = refl
entered_spots st pair (guarded ∷ gs) =
    flat_map-append (entered_at pair.user) (spots_of st pair.subtree guarded) (flat_map (spots_of st pair.subtree) gs)
    ∙ (λ i. one (standing st pair.subtree guarded) i ++ entered_spots st pair gs i)
    ∙ sym (map-append (entrant pair) (reached_of st pair.user pair.subtree guarded) (flat_map (reached_of st pair.user pair.subtree) gs))
  where
    by : (r : Bool) (at : GuardedEntry)
        → unless (not r) (entered pair.user (pair.subtree, at)) ++ [] ≡ map (entrant pair) (unless (not r) at)
    by true at = refl
    by false at = refl

    one : (found : Option GuardedEntry)
        → flat_map (entered_at pair.user) (present found (λ at. (pair.subtree, at) ∷ []))
        ≡ map (entrant pair) (present found (if_reached pair.user))
    one None = refl
    one (Some at) = by (reaches pair.user at.entry) at

module _ (st : State) (pairs : List Named) (pair : Named) (found more : List Entering) (tables : List Table) (place : ℕ)
    (table after : Table) (within : place < length tables) (is : table ≡ get_or tables place table) (path : table_path table ≡ pair.subtree)
    (same : table_path after ≡ table_path table) (thinned : IsThinned found (entrants st pairs)) (formed : All (IsTable st found) tables)
    (named : AreTabled (map table_path tables) (map (λ pair. pair.subtree) pairs ++ pair.subtree ∷ []))
    (met : AreMet pair.user found more table.stands.items after.stands.items (map spot_of table.stands.items)) where
  here_formed : IsTable st found table
  here_formed = subst (IsTable st found) (sym is) (All-get_or (IsTable st found) tables place table within formed)

  formed_on : (other : Table) → IsTable st found other → IsTable st more other
  formed_on other formed = record {
    subtree = formed.subtree;
    spots = formed.spots;
    known = All-weaker (IsKnown found) (IsKnown more) met.kept other.stands.items formed.known;
  }

  pair_entrants : flat_map (entered_at pair.user) (map spot_of table.stands.items) ≡ entrants_of st pair
  pair_entrants =
      ap (flat_map (entered_at pair.user)) (here_formed.spots ∙ ap (spots st) path)
      ∙ entered_spots st pair (guarded_entries pair.subtree)

  flat_one : flat_map (entrants_of st) (pairs ++ pair ∷ []) ≡ entrants st pairs ++ entrants_of st pair
  flat_one = flat_more (entrants_of st) pairs pair

  pub pair_met : HaveEntered st (pairs ++ pair ∷ []) more (set tables place after)
  pair_met = record {
    thinned =
        subst (IsThinned more) (ap (λ l. entrants st pairs ++ l) pair_entrants ∙ sym flat_one)
        (met.thinned here_formed.known (entrants st pairs) thinned);
    formed =
        All-set (IsTable st more) tables place after
        (record {
          subtree = subst (IsSubtree st) (sym same) here_formed.subtree;
          spots = met.same ∙ here_formed.spots ∙ ap (spots st) (sym same);
          known = met.known here_formed.known;
        })
        (All-weaker (IsTable st found) (IsTable st more) formed_on tables formed);
    named =
        subst (λ l. AreTabled l (map (λ pair. pair.subtree) (pairs ++ pair ∷ [])))
        (sym (set_alike table_path tables place table after within is same))
        (subst (AreTabled (map table_path tables)) (sym (map-append (λ pair. pair.subtree) pairs (pair ∷ []))) named);
  }

-- ---- what is written of them

-- the lines of those who get in by something new are the lines of all
pub lines_thinned : (found all : List Entering) → IsThinned found all
    → flat_map (gathered_lines found) (once same_place found) ≡ flat_map (gathered_lines all) (once same_place all)
lines_thinned found all thinned =
    ap (flat_map (gathered_lines found)) thinned.thin.first
    ∙ (λ i. flat_map (λ each. lines_by (thinned.ways (key_at each.subtree each.at) i) each.subtree each.at) (once same_place all))

-- all parts of the text
pub all_thinned : (st : State) (pairs : List Named) (found : List Entering) (tables : List Table) (start one all : List ℕ) → start ≡ []
    → HaveEntered st pairs found tables
    → one ≡ start ++ flat_map (gathered_lines found) (once same_place found)
    → all ≡ one ++ flat_map (over_lines st) (once same_path (map table_path tables)) → all ≡ pairs_lines st pairs
all_thinned st pairs found tables start one all empty met is_one is_all =
    all_written st pairs (entrants st pairs) start one all empty refl
    (is_one ∙ ap (λ l. start ++ l) (lines_thinned found (entrants st pairs) met.thinned))
    (is_all ∙ ap (λ paths. one ++ flat_map (over_lines st) paths) met.named.first)

-- ---- the entries on which guards stand, one after another

module _ (st : State) (subtree : Names) (place : ℕ) (stands : List Stand) where
  abbrev left : ℕ → List Spot
  left n = flat_map (spots_of st subtree) (drop n (guarded_entries subtree))

  pub no_stand : None ≡ option_and_then (standing st subtree) (slice_get (guarded_entries subtree) place)
      → map spot_of stands ++ left (place + 1) ≡ map spot_of stands ++ left place
  no_stand is =
      ap (λ rest. map spot_of stands ++ rest)
      (sym (walk_turn st subtree (λ at. (subtree, at) ∷ []) (guarded_entries subtree) place None is))

  pub one_stand : (at : GuardedEntry) → Some at ≡ option_and_then (standing st subtree) (slice_get (guarded_entries subtree) place)
      → (stand : Stand) → spot_of stand ≡ (subtree, at) → (new : List Stand) → new ≡ stands ++ stand ∷ []
      → map spot_of new ++ left (place + 1) ≡ map spot_of stands ++ left place
  one_stand at is stand spot new pushed =
      ap (λ l. map spot_of l ++ left (place + 1)) pushed
      ∙ ap (λ l. l ++ left (place + 1)) (map-append spot_of stands (stand ∷ []))
      ∙ append_assoc (map spot_of stands) (spot_of stand ∷ []) (left (place + 1))
      ∙ ap (λ one. map spot_of stands ++ (one ∷ left (place + 1))) spot
      ∙ ap (λ rest. map spot_of stands ++ rest)
      (sym (walk_turn st subtree (λ at. (subtree, at) ∷ []) (guarded_entries subtree) place (Some at) is))

  pub stands_left : length (guarded_entries subtree) ≤ place → map spot_of stands ++ left place ≡ map spot_of stands
  stands_left all =
      ap (λ gs. map spot_of stands ++ flat_map (spots_of st subtree) gs) (drop_all (guarded_entries subtree) place all)
      ∙ append-nil (map spot_of stands)

-- ---- a table is looked for, or made

-- a subtree that is named again
pub named_again : (tables paths : List Names) (path : Names) (place : ℕ) → slice_get tables place ≡ Some path → AreTabled tables paths
    → AreTabled tables (paths ++ path ∷ [])
named_again tables paths path place is named =
    let there : list_any (λ other. same_path other path) paths ≡ true =
    sym (named.met path) ∙ any_at (λ other. same_path other path) tables place path is (same_path_refl path) in
    thin_kept same_path (λ key other. same_path other key) tables paths path path (λ other. refl) named there
    (λ q met. subst (λ p. list_any (λ other. same_path other p) paths ≡ true) (same_path-is path q met) there)
  where
    any_at : (test : Names → Bool) (xs : List Names) (i : ℕ) (x : Names) → slice_get xs i ≡ Some x → test x ≡ true → list_any test xs ≡ true
    any_at test [] i x is passes = cc
    any_at test (y ∷ ys) zero x is passes =
        let same : y ≡ x = cc in ap (λ z. test z || list_any test ys) same ∙ ap (λ b. b || list_any test ys) passes
    any_at test (y ∷ ys) (suc i) x is passes =
        ap (λ b. test y || b) (any_at test ys i x is passes) ∙ either (test y)
      where
        either : (b : Bool) → b || true ≡ true
        either true = refl
        either false = refl

-- and one that is named first
pub named_first : (tables paths : List Names) (path : Names) → AreTabled tables paths → AreTabled (tables ++ path ∷ []) (paths ++ path ∷ [])
named_first tables paths path named =
    thin_more same_path (λ key other. same_path other key) tables paths path path (λ other. refl) named

pub is_table_at : (tables : List Table) (place : ℕ) (path : Names) → is_table_of tables place path ≡ true
    → slice_get (map table_path tables) place ≡ Some path
is_table_at tables place path is =
    slice_get-map table_path tables place
    ∙ elim (slice_get tables place) as
    (λ found. unwrap_or (option_map (λ table. same_path (table_path table) path) found) false ≡ true
    → option_map table_path found ≡ Some path) [
      | None ↦ λ no. let never : ⊥ = cc in absurd never
      | Some table ↦ λ same. ap Some (same_path-is (table_path table) path same)
    ] is

pub path_at : (tables : List Table) (place : ℕ) (path : Names) → slice_get (map table_path tables) place ≡ Some path
    → (table : Table) → table ≡ get_or tables place table → table_path table ≡ path
path_at [] place path is table here = cc
path_at (one ∷ tables) zero path is table here = let same : table_path one ≡ path = cc in ap table_path here ∙ same
path_at (one ∷ tables) (suc place) path is table here = path_at tables place path is table here

pub pushed_at : (tables new : List Table) (table : Table) (place : ℕ) → place ≡ length tables → new ≡ tables ++ table ∷ []
    → slice_get (map table_path new) place ≡ Some (table_path table)
pushed_at tables new table place last pushed = ap (λ ts. slice_get (map table_path ts) place) pushed ∙ at_end tables place last
  where
    at_end : (ts : List Table) (n : ℕ) → n ≡ length ts → slice_get (map table_path (ts ++ table ∷ [])) n ≡ Some (table_path table)
    at_end [] zero is = refl
    at_end [] (suc n) is = absurd (omega (arith, is))
    at_end (t ∷ ts) zero is = absurd (omega (arith, is))
    at_end (t ∷ ts) (suc n) is = at_end ts n (omega (arith, is))

pub named_pushed : (tables new : List Table) (table : Table) (paths : List Names) → new ≡ tables ++ table ∷ []
    → AreTabled (map table_path tables) paths → AreTabled (map table_path new) (paths ++ table_path table ∷ [])
named_pushed tables new table paths pushed named =
    subst (λ l. AreTabled l (paths ++ table_path table ∷ [])) (sym (ap (map table_path) pushed ∙ map-append table_path tables (table ∷ [])))
    (named_first (map table_path tables) paths (table_path table) named)

-- one more table, where nobody was met yet
none_known : (all : List Entering) (stand : Stand) → stand.ways ≡ no_ways → IsKnown all stand
none_known all stand none =
    subst (λ some. AreAmong some (ways_at (key_at stand.subtree.now stand.at) all)) (sym none) (record {
      owner = λ is. cc;
      group = λ is. cc;
      others = λ is. cc;
      inside = λ is. cc;
      outside = λ is. cc;
    })

pub formed_pushed : (st : State) (tables new : List Table) (table : Table) → new ≡ tables ++ table ∷ []
    → IsSubtree st (table_path table) → map spot_of table.stands.items ≡ spots st (table_path table)
    → All (λ stand. stand.ways ≡ no_ways) table.stands.items
    → (all : List Entering) → All (IsTable st all) tables → All (IsTable st all) new
formed_pushed st tables new table pushed subtree stood ways all formed =
    subst (All (IsTable st all)) (sym pushed)
    (All-push (IsTable st all) tables table formed (record {
      subtree = subtree;
      spots = stood;
      known = All-weaker (λ (stand : Stand). stand.ways ≡ no_ways) (IsKnown all) (none_known all) table.stands.items ways;
    }))

-- ---- a table's entries written back

pub length_met : (user : Identity) (before after : List Entering) (old new : List Stand) (spots : List Spot)
    → AreMet user before after old new spots → length new ≡ length old
length_met user before after old new spots met = sym (length-map new spot_of) ∙ ap length met.same ∙ length-map old spot_of

pub met_written : (user : Identity) (before after : List Entering) (table : Table) (old new : List Stand) → old ≡ table.stands.items
    → length new ≡ table.stands.len → AreMet user before after old new (map spot_of old)
    → AreMet user before after table.stands.items (with_items table.stands new).items (map spot_of table.stands.items)
met_written user before after table old new is same met =
    subst (λ stands. AreMet user before after table.stands.items stands (map spot_of table.stands.items))
    (sym (with_items_is table.stands new same))
    (subst (λ stands. AreMet user before after stands new (map spot_of stands)) is met)
