-- The entrances of a subtree: those of the doors above it, the nearest first, and then all others.
use Rattle.std.proofs.Common.{◌≡◌, ℕ, zero, suc, ◌+◌, ◌-◌, ◌<◌, ◌≤◌, Bool, true, false, cond, List, [], ◌∷◌, ◌++◌, length, take, drop, get_or, filter, Option, Some, None, refl, sym, ap, subst, ◌∙◌, append_assoc, append-nil, take-suc, arith, lt-ltb}
use Rattle.std.specs.Prelude.{nat_lt, option_and_then, slice_get}
use Rattle.std.specs.List.{flat_map, AllByRecursion}
use Rattle.std.specs.Option.{option_map}
use Rattle.std.proofs.lemmas.Bool.{ltb-true, ltb-false}
use Rattle.std.proofs.lemmas.List.{take-take}
use Rattle.std.proofs.lemmas.List.Concat.{flat_map-append}
use Rattle.std.proofs.lemmas.List.Elements.{filter-append, All-from_recursion}
use Rattle.cg_cgroup.specs.Paths.{Names, common, same_name}
use Rattle.cg_cgroup.specs.declared.files.EntryName.TheVariants.{Procs}
use Rattle.cg_cgroup.specs.declared.user.Entry.{Entry}
use Rattle.cg_cgroup.proofs.PathLaws.{common-take, common-take_first}
use Rattle.cg_model.proofs.Lists.{all-append, all-each}
use Rattle.cg_model.specs.Clauses.{present}
use Rattle.cg_model.specs.Guards.{Guarded, ancestor, ancestors, limit_files, parent_control, parent_dir, guarded_entries, guarded_entry, found, standing}
use Rattle.cg_model.specs.States.{State, entry_at}
use Rattle.cg_model.specs.declared.guard.GuardedEntry.{GuardedEntry}
use Rattle.cg_guards.proofs.TableWalk.{length-ancestors, ancestor_at, walk_turn}
use Rattle.cg_advice.specs.AdviceLines.{fails_line}
use Rattle.machine_everybody.specs.Everybody.{Everybody, lets_anybody_in}
use Rattle.cg_everybody.specs.Everybody.{classes_in, entrance_lines, entered_by, entrance_of, entrances}
use Rattle.cg_everybody.specs.Entrances.{entrance_at, class_lines, opens, is_door, doors}
use Rattle.cg_everybody.proofs.Held.{no_lines}

-- the last first
abbrev pub backwards : {A : Type 0} → (ℕ → List A) → List ℕ → List A
backwards each [] = []
backwards each (x ∷ xs) = backwards each xs ++ each x

pub backwards-more : {A : Type 0} (each : ℕ → List A) (xs : List ℕ) (x : ℕ)
    → backwards each (xs ++ x ∷ []) ≡ each x ++ backwards each xs
backwards-more each [] x = sym (append-nil (each x))
backwards-more each (y ∷ ys) x =
    ap (λ l. l ++ each y) (backwards-more each ys x) ∙ append_assoc (each x) (backwards each ys) (each y)

-- the last of those that are left, and all before it
pub backwards-last : {A : Type 0} (each : ℕ → List A) (xs : List ℕ) (turn d : ℕ) → turn < length xs
    → backwards each (take (length xs - turn) xs)
    ≡ each (get_or xs (length xs - 1 - turn) d) ++ backwards each (take (length xs - (turn + 1)) xs)
backwards-last each xs turn d within =
    let place : ℕ = length xs - 1 - turn in
    let one : length xs - turn ≡ suc place = omega (arith, within) in
    let next : length xs - (turn + 1) ≡ place = omega arith in
    ap (λ n. backwards each (take n xs)) one ∙ ap (backwards each) (take-suc xs place d (omega (arith, within)))
    ∙ backwards-more each (take place xs) (get_or xs place d)
    ∙ ap (λ n. each (get_or xs place d) ++ backwards each (take n xs)) (sym next)

drop-front : {A : Type 0} (xs ys : List A) → drop (length xs) (xs ++ ys) ≡ ys
drop-front [] ys = refl
drop-front (x ∷ xs) ys = drop-front xs ys

pub common-short : (p q : Names) → length (common p q) ≤ length p
common-short [] q = omega arith
common-short (name ∷ p) [] = omega arith
common-short (name ∷ p) (other ∷ q) =
    elim (same_name name other) as (λ b. length (cond b (name ∷ common p q) []) ≤ suc (length p))
    [ true ↦ omega (arith, common-short p q) | false ↦ omega arith ]

pub common-short_second : (p q : Names) → length (common p q) ≤ length q
common-short_second [] q = omega arith
common-short_second (name ∷ p) [] = omega arith
common-short_second (name ∷ p) (other ∷ q) =
    elim (same_name name other) as (λ b. length (cond b (name ∷ common p q) []) ≤ suc (length q))
    [ true ↦ omega (arith, common-short_second p q) | false ↦ omega arith ]

module _ (st : State) (asked : Everybody) where
  -- ---- the doors above a path

  module _ (path : Names) where
    pub doors-more : (len : ℕ) → doors st asked path (len + 1)
        ≡ doors st asked path len ++ cond (is_door st asked path len) (len ∷ []) []
    doors-more len = let e : len + 1 ≡ suc len = omega arith in rw e refl

    all_below : (len : ℕ) → AllByRecursion (λ n. n < len) (doors st asked path len)
    all_below zero = tt
    all_below (suc len) =
        all-append (λ n. n < suc len) (doors st asked path len) (cond (is_door st asked path len) (len ∷ []) [])
        (all-each (λ n. n < len) (λ n. n < suc len) (λ n h. omega (arith, h)) (doors st asked path len) (all_below len))
        (last (is_door st asked path len))
      where
        last : (b : Bool) → AllByRecursion (λ n. n < suc len) (cond b (len ∷ []) [])
        last true = (omega arith, tt)
        last false = tt

    -- each is less deep than the path
    pub door-below : (len place d : ℕ) → place < length (doors st asked path len) → get_or (doors st asked path len) place d < len
    door-below len place d within =
        All-from_recursion (λ n. n < len) (doors st asked path len) (all_below len) place d within

    pub door-at : (len : ℕ) (lens : List ℕ) (place d : ℕ) → lens ≡ doors st asked path len → place < length lens
        → get_or lens place d < len
    door-at len lens place d are within =
        subst (λ (xs : List ℕ). get_or xs place d < len) (sym are)
        (door-below len place d (subst (λ (xs : List ℕ). place < length xs) are within))

    none_beyond : (bound : ℕ) (len : ℕ) → len ≤ bound
        → filter (λ n. nat_lt n bound) (doors st asked path len) ≡ doors st asked path len
    none_beyond bound zero h = refl
    none_beyond bound (suc len) h =
        filter-append (λ n. nat_lt n bound) (doors st asked path len) (cond (is_door st asked path len) (len ∷ []) [])
        ∙ (λ i. none_beyond bound len (omega (arith, h)) i ++ last (is_door st asked path len) i)
      where
        last : (b : Bool) → filter (λ n. nat_lt n bound) (cond b (len ∷ []) []) ≡ cond b (len ∷ []) []
        last true = ap (λ t. cond t (len ∷ []) []) (lt-ltb len bound (omega (arith, h)))
        last false = refl

    -- those of its first names are those that are less deep
    pub doors-kept : (len bound : ℕ) → bound ≤ len → filter (λ n. nat_lt n bound) (doors st asked path len) ≡ doors st asked path bound
    doors-kept zero bound h = let e : zero ≡ bound = omega (arith, h) in ap (doors st asked path) e
    doors-kept (suc len) bound h =
        elim (nat_lt len bound) as (λ b. nat_lt len bound ≡ b
        → filter (λ n. nat_lt n bound) (doors st asked path (suc len)) ≡ doors st asked path bound) [
          | true ↦ λ is.
              let all : suc len ≡ bound = omega (arith, h, ltb-true len bound is) in
              none_beyond bound (suc len) (omega (arith, all)) ∙ ap (doors st asked path) all
          | false ↦ λ is.
              filter-append (λ n. nat_lt n bound) (doors st asked path len) (cond (is_door st asked path len) (len ∷ []) [])
              ∙ (λ i. doors-kept len bound (ltb-false len bound is) i ++ gone is (is_door st asked path len) i)
              ∙ append-nil (doors st asked path bound)
        ] refl
      where
        gone : nat_lt len bound ≡ false → (b : Bool) → filter (λ n. nat_lt n bound) (cond b (len ∷ []) []) ≡ []
        gone is true = ap (λ t. cond t (len ∷ []) []) is
        gone is false = refl

    -- where none is, nobody gets in
    closed : (len : ℕ) (here : Option Entry) → opens asked here ≡ false
        → present (option_map (found (ancestor len)) here) (entered_by asked path) ≡ []
    closed len None is = refl
    closed len (Some entry) is = ap (λ b. cond b ((path, found (ancestor len) entry) ∷ []) []) is

    -- and their entrances, from the last, are those of all cgroups above
    pub doors-entered : (len : ℕ)
        → backwards (λ n. entrance_of st asked path (ancestor n)) (doors st asked path len)
        ≡ flat_map (entrance_of st asked path) (ancestors len)
    doors-entered zero = refl
    doors-entered (suc len) = by_door (doors-entered len) (is_door st asked path len) refl
      where
        by_door : backwards (λ n. entrance_of st asked path (ancestor n)) (doors st asked path len)
            ≡ flat_map (entrance_of st asked path) (ancestors len)
            → (b : Bool) → is_door st asked path len ≡ b
            → backwards (λ n. entrance_of st asked path (ancestor n)) (doors st asked path len ++ cond b (len ∷ []) [])
            ≡ entrance_of st asked path (ancestor len) ++ flat_map (entrance_of st asked path) (ancestors len)
        by_door before true is =
            backwards-more (λ n. entrance_of st asked path (ancestor n)) (doors st asked path len) len
            ∙ ap (λ rest. entrance_of st asked path (ancestor len) ++ rest) before
        by_door before false is =
            ap (backwards (λ n. entrance_of st asked path (ancestor n))) (append-nil (doors st asked path len)) ∙ before
            ∙ ap (λ front. front ++ flat_map (entrance_of st asked path) (ancestors len))
            (sym (closed len (guarded_entry st path (ancestor len)) is))

  -- they are those of each path with the same first names
  same_doors : (path other : Names) (len : ℕ) → ((n : ℕ) → n < len → take n path ≡ take n other)
      → doors st asked path len ≡ doors st asked other len
  same_doors path other zero same = refl
  same_doors path other (suc len) same =
      λ i. same_doors path other len (λ n h. same n (omega (arith, h))) i
      ++ cond (opens asked (entry_at st (same len (omega arith) i) Procs)) (len ∷ []) []

  shared-doors : (path other : Names) (len : ℕ) → len ≡ length (common path other)
      → doors st asked path len ≡ doors st asked other len
  shared-doors path other len is =
      same_doors path other len (λ n h.
      let within : n ≤ length (common path other) = omega (arith, h, is) in
      sym (take-take n (length (common path other)) path within)
      ∙ ap (take n) (sym (common-take_first path other) ∙ common-take path other)
      ∙ take-take n (length (common path other)) other within)

  -- what is kept of some doors
  pub none-kept : (lens : List ℕ) (path : Names) → lens ≡ [] → filter (λ len. nat_lt len 0) lens ≡ doors st asked path 0
  none-kept lens path none = ap (filter (λ len. nat_lt len 0)) none

  pub some-kept : (lens : List ℕ) (last path : Names) (shared : ℕ) → shared ≡ length (common last path)
      → lens ≡ doors st asked last (length last) → filter (λ len. nat_lt len shared) lens ≡ doors st asked path shared
  some-kept lens last path shared is kept =
      ap (filter (λ len. nat_lt len shared)) kept
      ∙ doors-kept last (length last) shared (omega (arith, is, common-short last path))
      ∙ shared-doors last path shared is

  -- ---- the places of the guards

  module _ (subtree : Names) where
    pub door-place : (depth len : ℕ) → depth ≡ length subtree → len < depth
        → entrance_at st asked subtree (depth - 1 - len) ≡ entrance_of st asked subtree (ancestor len)
    door-place depth len level within =
        let back : depth - 1 - (depth - 1 - len) ≡ len = omega (arith, within) in
        ap (λ o. present (option_and_then (standing st subtree) o) (entered_by asked subtree))
        (sym (ancestor_at subtree (depth - 1 - len) depth level (omega (arith, within))))
        ∙ ap (λ n. entrance_of st asked subtree (ancestor n)) back

    pub place-next : (place : ℕ)
        → flat_map (entrance_of st asked subtree) (drop place (guarded_entries subtree))
        ≡ entrance_at st asked subtree place ++ flat_map (entrance_of st asked subtree) (drop (place + 1) (guarded_entries subtree))
    place-next place =
        walk_turn st subtree (entered_by asked subtree) (guarded_entries subtree) place
        (option_and_then (standing st subtree) (slice_get (guarded_entries subtree) place)) refl

    abbrev others : List Guarded
    others = limit_files (length subtree) ++ parent_control subtree ∷ parent_dir subtree ∷ []

    parts : guarded_entries subtree ≡ ancestors (length subtree) ++ others
    parts = append_assoc (ancestors (length subtree)) (limit_files (length subtree)) (parent_control subtree ∷ parent_dir subtree ∷ [])

    behind : drop (length subtree) (guarded_entries subtree) ≡ others
    behind =
        ap (drop (length subtree)) parts
        ∙ ap (λ n. drop n (ancestors (length subtree) ++ others)) (sym (length-ancestors (length subtree)))
        ∙ drop-front (ancestors (length subtree)) others

    pub all-entered : entrances st asked subtree
        ≡ flat_map (entrance_of st asked subtree) (ancestors (length subtree))
        ++ flat_map (entrance_of st asked subtree) (drop (length subtree) (guarded_entries subtree))
    all-entered =
        ap (flat_map (entrance_of st asked subtree)) parts
        ∙ flat_map-append (entrance_of st asked subtree) (ancestors (length subtree)) others
        ∙ ap (λ rest. flat_map (entrance_of st asked subtree) (ancestors (length subtree)) ++ flat_map (entrance_of st asked subtree) rest)
        (sym behind)

    -- ---- their lines

    of_one : (here : Option GuardedEntry)
        → flat_map (class_lines asked) (present here (entered_by asked subtree))
        ≡ present here (λ at. flat_map (fails_line subtree at) (classes_in asked at.entry))
    of_one None = refl
    of_one (Some at) =
        elim (lets_anybody_in asked at.entry) as (λ b. lets_anybody_in asked at.entry ≡ b
        → flat_map (class_lines asked) (cond b ((subtree, at) ∷ []) []) ≡ flat_map (fails_line subtree at) (classes_in asked at.entry)) [
          | true ↦ λ _. append-nil (class_lines asked (subtree, at))
          | false ↦ λ is. sym (no_lines asked subtree at is)
        ] refl

    of_each : (gs : List Guarded)
        → flat_map (class_lines asked) (flat_map (entrance_of st asked subtree) gs) ≡ flat_map (entrance_lines st asked subtree) gs
    of_each [] = refl
    of_each (guarded ∷ gs) =
        flat_map-append (class_lines asked) (entrance_of st asked subtree guarded) (flat_map (entrance_of st asked subtree) gs)
        ∙ (λ i. of_one (standing st subtree guarded) i ++ of_each gs i)

    pub entrances-lines : flat_map (class_lines asked) (entrances st asked subtree)
        ≡ flat_map (entrance_lines st asked subtree) (guarded_entries subtree)
    entrances-lines = of_each (guarded_entries subtree)
