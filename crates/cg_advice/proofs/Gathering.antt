-- Who gets in, and by what, gathered one after another.
use Rattle.std.proofs.Common.{◌≡◌, ℕ, zero, suc, ◌+◌, ◌<◌, Bool, true, false, cond, ◌&&◌, ◌||◌, not, List, [], ◌∷◌, ◌++◌, append_assoc, append-nil, map, length, take, get_or, filter, take-suc, add-one, refl, sym, ap, ◌∙◌, arith, Option, Some, None}
use Rattle.std.specs.Prelude.{unwrap_or, is_some, is_none}
use Rattle.std.specs.List.{flat_map, list_any, list_all, AllByRecursion}
use Rattle.std.specs.Ordering.{nat_cmp, is_eq}
use Rattle.std.specs.Cmp.{both_tied}
use Rattle.std.specs.Cmp.Lexicographic.{slice_cmp, pointwise, texts_ties, lists_ties, bytes_decides}
use Rattle.std.specs.BTreeMap.{BTreeMap, get}
use Rattle.std.proofs.lemmas.Bool.{and_parts, and_from}
use Rattle.std.proofs.lemmas.List.Concat.{flat_map-append}
use Rattle.std.proofs.lemmas.List.Elements.{filter-append}
use Rattle.std.proofs.lemmas.List.Folds.{list_any-append}
use Rattle.cg_cgroup.specs.Paths.{Names, path_cmp, same_path, same_name}
use Rattle.cg_cgroup.specs.Identity.{Identity}
use Rattle.cg_cgroup.specs.Users.{in_group}
use Rattle.cg_cgroup.specs.Files.{entry_text, same_entry}
use Rattle.cg_cgroup.specs.declared.user.Entry.{Entry}
use Rattle.cg_cgroup.specs.declared.files.EntryName.{EntryName}
use Rattle.cg_cgroup.proofs.PathOrder.{same_path-is, same_path_comm}
use Rattle.cg_cgroup.proofs.CgroupLaws.{same_entry-true, same_entry-refl}
use Rattle.cg_cgroup.proofs.NameLaws.{entry_names}
use Rattle.cg_model.specs.States.{State}
use Rattle.cg_model.specs.Once.{once}
use Rattle.cg_model.specs.Mended.{is_by}
use Rattle.cg_model.specs.declared.mend.Class.TheVariants.{Owner, Group, Others}
use Rattle.cg_model.specs.Mends.{Pair as Named, Entrant as Entering, entrants, is_at, same_place, users_at, users_with, met, subtrees_of}
use Rattle.cg_model.proofs.OnceLaws.{once_more, all-once}
use Rattle.cg_model.proofs.Lists.{all-each}
use Rattle.cg_advice.specs.AdviceLines.{entry_lines, over_lines, pairs_lines}
use Rattle.cg_advice.specs.Found.{ways_by, let_gathered, let_by}
use Rattle.cg_advice.specs.WayLines.{lines_by}
use Rattle.cg_advice.specs.Ways.{no_ways, ways_with, ways_among, ways_at, AreGathered, Key, key_cmp, is_keyed, gathered_lines}
use Rattle.cg_advice.specs.declared.ways.Ways.{Ways}
use Rattle.cg_advice.proofs.Running.{IsThere, entrants-there, this-there}

pub map-append : {A B : Type 0} (g : A → B) (xs ys : List A) → map g (xs ++ ys) ≡ map g xs ++ map g ys
map-append g [] ys = refl
map-append g (x ∷ xs) ys = ap (λ l. g x ∷ l) (map-append g xs ys)

-- one more of a list
pub one_more : {A B : Type 0} (g : A → B) (xs : List A) (i : ℕ) (x : A) → i < length xs → x ≡ get_or xs i x
    → map g (take (i + 1) xs) ≡ map g (take i xs) ++ (g x ∷ [])
one_more g xs i x within is =
    ap (map g) (rw add-one (take-suc xs i x within)) ∙ map-append g (take i xs) (get_or xs i x ∷ [])
    ∙ ap (λ y. map g (take i xs) ++ (g y ∷ [])) (sym is)

pub flat_more : {A B : Type 0} (f : A → List B) (xs : List A) (x : A) → flat_map f (xs ++ x ∷ []) ≡ flat_map f xs ++ f x
flat_more f xs x = flat_map-append f xs (x ∷ []) ∙ ap (λ l. flat_map f xs ++ l) (append-nil (f x))

-- ---- keys

iff_same : (b c : Bool) → (b ≡ true → c ≡ true) → (c ≡ true → b ≡ true) → b ≡ c
iff_same true c there back = sym (there refl)
iff_same false true there back = back refl
iff_same false false there back = refl

pub same_name-refl : (name : List ℕ) → same_name name name ≡ true
same_name-refl name = (bytes_decides name name).1 refl

pub same_named : (name other : EntryName) → same_name (entry_text name) (entry_text other) ≡ same_entry name other
same_named name other =
    iff_same (same_name (entry_text name) (entry_text other)) (same_entry name other)
    (λ same. ap (same_entry name) (sym (entry_names.distinct name other ((bytes_decides (entry_text name) (entry_text other)).0 same)))
    ∙ same_entry-refl name)
    (λ same. ap (λ n. same_name (entry_text name) (entry_text n)) (sym (same_entry-true name other same))
    ∙ same_name-refl (entry_text name))

same_entry_comm : (name other : EntryName) → same_entry name other ≡ same_entry other name
same_entry_comm name other =
    iff_same (same_entry name other) (same_entry other name)
    (λ same. ap (λ n. same_entry n name) (sym (same_entry-true name other same)) ∙ same_entry-refl name)
    (λ same. ap (λ n. same_entry n other) (sym (same_entry-true other name same)) ∙ same_entry-refl other)

-- the key of the entry that lets one in
pub record IsKeyOf (key : Key) (each : Entering) : Type 0 where
  pub path : key.0 ≡ take each.at.len each.subtree
  pub name : key.1.now ≡ entry_text each.at.name

-- is met where the keys are the same
pub tied : (key q : Key) (each : Entering) → IsKeyOf key each → is_eq (key_cmp key q) ≡ is_keyed q each
tied key q each is =
    sym (both_tied (same_path key.0 q.0) (pointwise _ key.1.now q.1.now) (path_cmp key.0 q.0) (slice_cmp nat_cmp key.1.now q.1.now)
    (lists_ties (slice_cmp nat_cmp) texts_ties key.0 q.0) (texts_ties key.1.now q.1.now))
    ∙ (λ i. same_path (is.path i) q.0 && same_name (is.name i) q.1.now)

pub keyed_same_place : (key : Key) (each other : Entering) → IsKeyOf key each → is_keyed key other ≡ same_place other each
keyed_same_place key each other is =
    (λ i. same_path (take other.at.len other.subtree) (is.path i) && same_name (entry_text other.at.name) (is.name i))
    ∙ (λ i. same_path_comm (take other.at.len other.subtree) (take each.at.len each.subtree) i
    && (same_named other.at.name each.at.name ∙ same_entry_comm other.at.name each.at.name) i)

-- ---- what is kept of each entry

pub or_none : (b : Bool) → b || false ≡ b
or_none true = refl
or_none false = refl

pub one_way : {A : Type 0} (test : A → Bool) (xs : List A) (x : A) → list_any test (xs ++ x ∷ []) ≡ list_any test xs || test x
one_way test xs x = list_any-append test xs (x ∷ []) ∙ ap (λ b. list_any test xs || b) (or_none (test x))

pub ways_more : (all : List Entering) (x : Entering) → ways_among (all ++ x ∷ []) ≡ ways_with (ways_among all) x.user x.at.entry
ways_more all x = λ i. record {
  owner = one_way (λ each. is_by Owner each.at.entry each.user) all x i;
  group = one_way (λ each. is_by Group each.at.entry each.user) all x i;
  others = one_way (λ each. is_by Others each.at.entry each.user) all x i;
  inside = one_way (λ each. in_group each.user each.at.entry.gid) all x i;
  outside = one_way (λ each. not (in_group each.user each.at.entry.gid)) all x i;
}

module _ (old new : BTreeMap Key Ways) (all : List Entering) (x : Entering) (key : Key) (ways : Ways) (before : AreGathered old all)
    (is : IsKeyOf key x) (joined : ways ≡ ways_with (unwrap_or (get key_cmp old key) no_ways) x.user x.at.entry)
    (updates : (q : Key) → get key_cmp new q ≡ cond (is_eq (key_cmp key q)) (Some ways) (get key_cmp old q)) where
  at_more : (q : Key) (b : Bool) → is_keyed q x ≡ b
      → ways_at q (all ++ x ∷ []) ≡ ways_among (filter (is_keyed q) all ++ cond b (x ∷ []) [])
  at_more q b met =
      ap ways_among (filter-append (is_keyed q) all (x ∷ []) ∙ ap (λ c. filter (is_keyed q) all ++ cond c (x ∷ []) []) met)

  by_meeting : (q : Key) (b : Bool) → is_keyed q x ≡ b
      → unwrap_or (cond b (Some ways) (get key_cmp old q)) no_ways ≡ ways_at q (all ++ x ∷ [])
  by_meeting q true met =
      let parts = and_parts (same_path (take x.at.len x.subtree) q.0) (same_name (entry_text x.at.name) q.1.now) met in
      let path = is.path ∙ same_path-is (take x.at.len x.subtree) q.0 parts.0 in
      let name = is.name ∙ (bytes_decides (entry_text x.at.name) q.1.now).0 parts.1 in
      joined
      ∙ ap (λ w. ways_with w x.user x.at.entry) (before key)
      ∙ (λ i. ways_with (ways_among (filter (λ each. same_path (take each.at.len each.subtree) (path i)
      && same_name (entry_text each.at.name) (name i)) all)) x.user x.at.entry)
      ∙ sym (at_more q true met ∙ ways_more (filter (is_keyed q) all) x)
  by_meeting q false met = before q ∙ sym (at_more q false met ∙ ap ways_among (append-nil (filter (is_keyed q) all)))

  pub gathered_more : AreGathered new (all ++ x ∷ [])
  gathered_more q =
      ap (λ o. unwrap_or o no_ways) (updates q)
      ∙ ap (λ b. unwrap_or (cond b (Some ways) (get key_cmp old q)) no_ways) (tied key q x is)
      ∙ by_meeting q (is_keyed q x) refl

-- of whichever of its keys
pub ways_of_key : (key : Key) (x : Entering) (all : List Entering) → IsKeyOf key x
    → ways_at key all ≡ ways_at (take x.at.len x.subtree, record { ref_ptr = (0, 0); now = entry_text x.at.name }) all
ways_of_key key x all is = λ i. ways_among (filter (λ each. same_path (take each.at.len each.subtree) (is.path i)
    && same_name (entry_text each.at.name) (is.name i)) all)

-- ---- what is written of them

-- of things whose lines are written where they are met first
pub record AreWritten {X K T : Type 0} (lines_of : X → List T) (same : X → X → Bool) (meets : K → X → Bool) (text begun : List T)
    (front : List X) (seen : K → Bool) : Type 0 where
  pub lines : text ≡ begun ++ flat_map lines_of (once same front)
  pub keys : (q : K) → seen q ≡ list_any (meets q) front

module _ {X K T : Type 0} (lines_of : X → List T) (same : X → X → Bool) (meets : K → X → Bool) (text begun : List T)
    (front : List X) (old new tie : K → Bool) (x : X) (key : K) (added : Bool)
    (before : AreWritten lines_of same meets text begun front old) (ties : (q : K) → tie q ≡ meets q x)
    (alike : (y : X) → meets key y ≡ same y x)
    (updates : (q : K) → new q ≡ cond (tie q) true (old q)) (is_new : added ≡ not (old key)) where
  keys_more : (q : K) → new q ≡ list_any (meets q) (front ++ x ∷ [])
  keys_more q =
      updates q ∙ (λ i. cond (ties q i) true (before.keys q i)) ∙ turned (meets q x) (list_any (meets q) front)
      ∙ sym (list_any-append (meets q) front (x ∷ []))
    where
      turned : (a b : Bool) → cond a true b ≡ b || (a || false)
      turned true true = refl
      turned true false = refl
      turned false true = refl
      turned false false = refl

  was_met : old key ≡ list_any (λ other. same other x) front
  was_met = before.keys key ∙ (λ i. list_any (λ other. alike other i) front)

  negated : (b c : Bool) → b ≡ not c → c ≡ not b
  negated true true e = e
  negated true false e = refl
  negated false true e = refl
  negated false false e = e

  -- a new one is one more, and another none
  now_once : (b : Bool) → added ≡ b → once same (front ++ x ∷ []) ≡ once same front ++ cond b (x ∷ []) []
  now_once b said =
      once_more same front x
      ∙ ap (λ c. once same front ++ cond c [] (x ∷ [])) (sym was_met ∙ negated added (old key) is_new ∙ ap not said)
      ∙ ap (λ l. once same front ++ l) (turned b)
    where
      turned : (b : Bool) → cond (not b) [] (x ∷ []) ≡ cond b (x ∷ []) []
      turned true = refl
      turned false = refl

  pub written_first : added ≡ true → (more : List T) → more ≡ text ++ lines_of x
      → AreWritten lines_of same meets more begun (front ++ x ∷ []) new
  written_first said more is_more = record {
    lines =
        is_more ∙ ap (λ t. t ++ lines_of x) before.lines
        ∙ append_assoc begun (flat_map lines_of (once same front)) (lines_of x)
        ∙ ap (λ l. begun ++ l) (sym (ap (flat_map lines_of) (now_once true said) ∙ flat_more lines_of (once same front) x));
    keys = keys_more;
  }

  pub written_again : added ≡ false → (more : List T) → more ≡ text → AreWritten lines_of same meets more begun (front ++ x ∷ []) new
  written_again said more is_more = record {
    lines =
        is_more ∙ before.lines
        ∙ ap (λ l. begun ++ flat_map lines_of l) (sym (now_once false said ∙ append-nil (once same front)));
    keys = keys_more;
  }

pub tied_paths : (path other : Names) → is_eq (path_cmp path other) ≡ same_path path other
tied_paths path other = sym (lists_ties (slice_cmp nat_cmp) texts_ties path other)

-- ---- a test of each

pub all_more : {A B : Type 0} (test : B → Bool) (g : A → B) (xs : List A) (i : ℕ) (x : A) → i < length xs → x ≡ get_or xs i x
    → list_all test (map g (take i xs)) ≡ true → test (g x) ≡ true → list_all test (map g (take (i + 1) xs)) ≡ true
all_more test g xs i x within is so_far passes =
    ap (list_all test) (one_more g xs i x within is) ∙ pushed (map g (take i xs)) so_far
  where
    pushed : (ys : List _) → list_all test ys ≡ true → list_all test (ys ++ g x ∷ []) ≡ true
    pushed [] all = and_from (test (g x)) true passes refl
    pushed (y ∷ ys) all =
        let parts = and_parts (test y) (list_all test ys) all in
        and_from (test y) (list_all test (ys ++ g x ∷ [])) parts.0 (pushed ys parts.1)

pub one_fails : {A B : Type 0} (test : B → Bool) (g : A → B) (xs : List A) (i : ℕ) (x : A) → i < length xs → x ≡ get_or xs i x
    → test (g x) ≡ false → list_all test (map g xs) ≡ false
one_fails test g [] i x within is fails = absurd (omega (arith, within))
one_fails test g (y ∷ ys) zero x within is fails = ap (λ z. test (g z) && list_all test (map g ys)) (sym is)
    ∙ ap (λ b. b && list_all test (map g ys)) fails
one_fails test g (y ∷ ys) (suc i) x within is fails =
    ap (λ b. test (g y) && b) (one_fails test g ys i x (omega (arith, within)) is fails) ∙ neither (test (g y))
  where
    neither : (b : Bool) → b && false ≡ false
    neither true = refl
    neither false = refl

pub none_said : {A : Type 0} (found : Option A) (b : Bool) → b ≡ is_some found → is_none found ≡ not b
none_said None b is = ap not (sym is)
none_said (Some x) b is = ap not (sym is)

-- ---- as the definitions say it

any_same : (test : Entry → Identity → Bool) (path : Names) (name : EntryName) (entry : Entry) (es : List Entering)
    → AllByRecursion (λ each. is_at path name each ≡ true → each.at.entry ≡ entry) es
    → list_any (λ each. test each.at.entry each.user) (filter (is_at path name) es) ≡ list_any (test entry) (users_at path name es)
any_same test path name entry [] these = refl
any_same test path name entry (each ∷ es) these =
    elim (is_at path name each) as (λ b. is_at path name each ≡ b
    → list_any (λ one. test one.at.entry one.user) (cond b (each ∷ filter (is_at path name) es) (filter (is_at path name) es))
    ≡ list_any (test entry) (map (λ one. one.user) (cond b (each ∷ filter (is_at path name) es) (filter (is_at path name) es)))) [
      | true ↦ λ here. λ i. test (these.0 here i) each.user || any_same test path name entry es these.1 i
      | false ↦ λ _. any_same test path name entry es these.1
    ] refl

module _ (st : State) (all : List Entering) (there : AllByRecursion (IsThere st) all) where
  ways_same : (each : Entering) → IsThere st each
      → ways_at (take each.at.len each.subtree, record { ref_ptr = (0, 0); now = entry_text each.at.name }) all
      ≡ ways_by (users_with all each) each.at.entry
  ways_same each here =
      let path = take each.at.len each.subtree in
      let name = each.at.name in
      let these = all-each (IsThere st) (λ other. is_at path name other ≡ true → other.at.entry ≡ each.at.entry)
      (this-there st path name each.at.entry here) all there in
      ap (λ test. ways_among (filter test all))
      (λ i other. same_path (take other.at.len other.subtree) path && same_named other.at.name name i)
      ∙ (λ i. record {
        owner = any_same (λ entry user. is_by Owner entry user) path name each.at.entry all these i;
        group = any_same (λ entry user. is_by Group entry user) path name each.at.entry all these i;
        others = any_same (λ entry user. is_by Others entry user) path name each.at.entry all these i;
        inside = any_same (λ entry user. in_group user entry.gid) path name each.at.entry all these i;
        outside = any_same (λ entry user. not (in_group user entry.gid)) path name each.at.entry all these i;
      })

  lines_same : (each : Entering) → IsThere st each → gathered_lines all each ≡ entry_lines all each
  lines_same each here = ap (λ ways. lines_by ways each.subtree each.at) (ways_same each here)

  pub lets_same : (es : List Entering) → AllByRecursion (IsThere st) es → map (let_gathered all) es ≡ map (let_by all) es
  lets_same [] those = refl
  lets_same (each ∷ es) those = λ i. (each.subtree, each.at, ways_same each those.0 i) ∷ lets_same es those.1 i

  pub all_lines_same : (es : List Entering) → AllByRecursion (IsThere st) es
      → flat_map (gathered_lines all) es ≡ flat_map (entry_lines all) es
  all_lines_same [] those = refl
  all_lines_same (each ∷ es) those = λ i. lines_same each those.0 i ++ all_lines_same es those.1 i

-- all parts of the text
pub all_written : (st : State) (pairs : List Named) (es : List Entering) (start one all : List ℕ) → start ≡ []
    → es ≡ entrants st pairs
    → one ≡ start ++ flat_map (gathered_lines es) (once same_place es)
    → all ≡ one ++ flat_map (over_lines st) (subtrees_of pairs) → all ≡ pairs_lines st pairs
all_written st pairs es start one all empty are is_one is_all =
    let there = entrants-there st pairs in
    is_all
    ∙ ap (λ t. t ++ flat_map (over_lines st) (subtrees_of pairs)) (is_one
    ∙ (λ i. empty i ++ flat_map (gathered_lines (are i)) (once same_place (are i)))
    ∙ all_lines_same st (entrants st pairs) there (met st pairs) (all-once (IsThere st) same_place (entrants st pairs) there))
