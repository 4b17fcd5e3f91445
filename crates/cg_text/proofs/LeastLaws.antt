-- The least number of a row that fails, over the rows in the order of their paths, is that of the first table in the text that fails.
use Rattle.std.proofs.Common.{◌≡◌, ℕ, ◌+◌, ◌-◌, Bool, true, false, not, cond, ◌||◌, List, [], ◌∷◌, ◌++◌, length, get_or, reverse, find, filter, codes, Option, Some, None, is_some, is_lt, is_gt, is_eq, Ordering, option_map, option_and_then, refl, sym, ap, subst, ◌∙◌, true≢false, length-append, append_assoc, append-nil, get_or-append-add, arith}
use Rattle.std.specs.Prelude.{◌&&◌}
use Rattle.std.specs.Option.{option_or, option_to_list}
use Rattle.std.specs.Ordering.{ordering_reverse}
use Rattle.std.specs.List.{list_all, list_any}
use Rattle.std.specs.List.Sorted.{IsStableByKey, ties}
use Rattle.std.proofs.lemmas.Bool.{false_from_ne_true}
use Rattle.std.proofs.lemmas.List.Elements.{filter-append, filter_agree}
use Rattle.std.proofs.lemmas.List.Sorted.{sorted_far, ranks_by}
use Rattle.toml.specs.Data.{Members}
use Rattle.cg_cgroup.specs.Paths.{Names, path_cmp, same_path, is_root, parent}
use Rattle.cg_cgroup.specs.Files.{all_files, no_controllers, is_within, stands_under}
use Rattle.cg_cgroup.specs.declared.controllers.ControllerSet.{ControllerSet}
use Rattle.cg_cgroup.specs.declared.files.EntryName.TheVariants.{File}
use Rattle.cg_cgroup.proofs.PathOrder.{path_cmp_total, same_path-ties, same_path-is, same_path_refl, same_path_comm}
use Rattle.cg_cgroup.proofs.PathParents.{inside-take, is_root-is, parent-other}
use Rattle.cg_cgroup.proofs.PathLaws.{inside-first}
use Rattle.cg_model.specs.Clauses.{unless, present, first}
use Rattle.cg_model.proofs.ClauseLaws.{first_none, first_some}
use Rattle.cg_format.specs.Said.{controllers_said, has_path, is_named}
use Rattle.cg_format.specs.TextFaults.{each, is_there, over, tell_standing, names_standing, cgroup_faults}
use Rattle.cg_text.specs.Rows.{IsReadAs, AreReadAs}
use Rattle.cg_text.specs.Walk.{has_met, enabled_by, over_in, entries_from, is_orphan, is_past, names_past, is_not_within, has_no_file, IsLeast, least_fault, has_root, HasTested, AreInOrder}
use Rattle.cg_format.specs.declared.fault.Place.{Place}
use Rattle.cg_format.specs.declared.fault.Place.TheVariants.{Cgroup as AtCgroup}
use Rattle.cg_format.specs.declared.fault.TreeFault.{TreeFault}
use Rattle.cg_format.specs.declared.fault.TreeFault.TheVariants.{Duplicate, NoRoot, NoParent, TopDown, NoSuchFile}
use Rattle.cg_format.specs.declared.format.Format.{Format}
use Rattle.cg_text.specs.declared.tree.row.Row.{Row}
use Rattle.cg_text.specs.declared.tree.walk.Least.{Least}
use Rattle.cg_text.proofs.EachRow.{first_or}
use Rattle.cg_text.proofs.Needed.{all_within}
use Rattle.cg_format.proofs.SaidRanges.{said_of_known}
use Rattle.cg_format.proofs.CgroupClauses.{CgroupClause, twice_clause, orphan_clause, within_clause, files_clause}
use Rattle.cg_format.proofs.Cuts.{not_empty, head_of, find_filter, is_some-find, any_filter, filter_reverse, filter_none, cut_moved, once_kept}

-- ---- rows as their tables say them

abbrev pub at_path : Names → Row → Bool
at_path path row = same_path path row.path

-- what the first row at a path enables
abbrev pub enabled_first : List Row → Names → Option ControllerSet
enabled_first rows path = option_map (λ row. row.cgroup.enabled) (find (at_path path) rows)

abbrev pub over_first : ControllerSet → List Row → Names → Option ControllerSet
over_first at_root rows path = cond (is_root path) (Some at_root) (enabled_first rows (parent path))

module _ (format : Format) where
  -- the row that is found is as the table that is found says it
  abbrev pub AreMatched : Option Members → Option Row → Type 0
  AreMatched None None = Unit {0}
  AreMatched (Some table) (Some row) = (number : ℕ) × IsReadAs format number table row
  AreMatched table row = ⊥

  path_is : (path : Names) (number : ℕ) (table : Members) (row : Row) → IsReadAs format number table row
      → has_path path table ≡ same_path path row.path
  path_is path number table row read =
      ap (λ (o : Option Names). elim o [ None ↦ false | Some said ↦ same_path path said ]) read.path

  pub read_found : (path : Names) (i : ℕ) (tables : List Members) (rows : List Row) → AreReadAs format i tables rows
      → AreMatched (find (has_path path) tables) (find (at_path path) rows)
  read_found path i [] [] read = tt
  read_found path i (table ∷ tables) (row ∷ rows) read =
      let table_found : Bool → Option Members = λ b. cond b (Some table) (find (has_path path) tables) in
      subst (λ b. AreMatched (table_found b) (find (at_path path) (row ∷ rows))) (sym (path_is path i table row read.0))
      (elim (same_path path row.path) as (λ b. AreMatched (table_found b) (cond b (Some row) (find (at_path path) rows))) [
        | true ↦ (i, read.0)
        | false ↦ read_found path (i + 1) tables rows read.1
      ])
  read_found path i tables rows read = absurd read

  both_say : (table : Option Members) (row : Option Row) → AreMatched table row
      → (is_some table ≡ is_some row)
      × (option_and_then (controllers_said (codes "enabled")) table ≡ option_map (λ (row : Row). row.cgroup.enabled) row)
  both_say None None are = (refl, refl)
  both_say (Some table) (Some row) are = (refl, (said_of_known format (codes "enabled") table row.cgroup.enabled are.1.enabled).0)
  both_say table row are = absurd are

  module _ (i : ℕ) (tables : List Members) (rows : List Row) (read : AreReadAs format i tables rows) where
    both_at : (path : Names) → (is_some (find (has_path path) tables) ≡ is_some (find (at_path path) rows))
        × (option_and_then (controllers_said (codes "enabled")) (find (has_path path) tables) ≡ enabled_first rows path)
    both_at path = both_say (find (has_path path) tables) (find (at_path path) rows) (read_found path i tables rows read)

    pub there_is : (path : Names) → is_there tables path ≡ has_met rows path
    there_is path = sym (is_some-find (has_path path) tables) ∙ (both_at path).0 ∙ is_some-find (at_path path) rows

    pub over_is : (at_root : ControllerSet) (path : Names) → over (Some at_root) tables path ≡ over_first at_root rows path
    over_is at_root path = ap (cond (is_root path) (Some at_root)) (both_at (parent path)).1

  -- the number of a row is its place
  number_of : (i : ℕ) (tables : List Members) (rows front : List Row) (row : Row) (back : List Row) → AreReadAs format i tables rows
      → front ++ row ∷ back ≡ rows → row.number ≡ i + length front
  number_of i [] [] front row back read cut = absurd (not_empty front row back cut)
  number_of i (table ∷ tables) (other ∷ rows) [] row back read cut =
      let same : row ≡ other = cc in
      omega (arith, ap (λ (one : Row). one.number) same, read.0.number)
  number_of i (table ∷ tables) (other ∷ rows) (one ∷ front) row back read cut =
      let rest : front ++ row ∷ back ≡ rows = cc in
      omega (arith, number_of (i + 1) tables rows front row back read.1 rest)
  number_of i tables rows front row back read cut = absurd read

  -- ---- the first table that a clause speaks of

  module _ (clause : List Members → Place → Members → List TreeFault) (fault : Place → TreeFault) where
    -- behind these tables the clause has this fault of the rows that fail, and no other
    abbrev pub Tells : (List Row → Row → Bool) → ℕ → List Members → Type 0
    Tells fails i earlier =
        (more : List Members) (met : List Row) (number : ℕ) (table : Members) (row : Row)
        → AreReadAs format i more met → IsReadAs format number table row
        → first (clause (earlier ++ more) (AtCgroup number) table) ≡ cond (fails met row) (Some (fault (AtCgroup number))) None

    abbrev numbered : Option ℕ → Option TreeFault
    numbered least = option_map (λ number. fault (AtCgroup number)) least

    module _ (fails : List Row → Row → Bool) (row : Row) (rows : List Row) (least : Option ℕ) (is : IsLeast fails (row ∷ rows) least) where
      least_here : (i : ℕ) (table : Members) (tables : List Members) → AreReadAs format i (table ∷ tables) (row ∷ rows)
          → fails [] row ≡ true → least ≡ Some i
      least_here i table tables read failed =
          let low = is.below [] row rows refl failed in
          let cut = is.found low.0 low.1 in
          let number = number_of i (table ∷ tables) (row ∷ rows) cut.0 cut.1 cut.2 read cut.3 in
          let own = read.0.number in
          let same : low.0 ≡ i = omega (arith, number, own, low.2, cut.5) in
          low.1 ∙ ap Some same

      behind : (front : List Row) (other : Row) (back : List Row) → front ++ other ∷ back ≡ row ∷ rows → fails front other ≡ true
          → fails [] row ≡ false → (rest : List Row) × (rest ++ other ∷ back ≡ rows) × (fails (row ∷ rest) other ≡ true)
      behind [] other back cut failed passed =
          let same : other ≡ row = cc in
          absurd (true≢false (sym failed ∙ ap (fails []) same ∙ passed))
      behind (one ∷ front) other back cut failed passed =
          let same : one ≡ row = cc in
          (front, cc, sym (ap (λ (head : Row). fails (head ∷ front) other) same) ∙ failed)

      least_later : fails [] row ≡ false → IsLeast (λ met. fails (row ∷ met)) rows least
      least_later passed = record {
        found = λ number found.
            let cut = is.found number found in
            let later = behind cut.0 cut.1 cut.2 cut.3 cut.4 passed in
            (later.0, cut.1, cut.2, later.1, later.2, cut.5);
        below = λ front other back cut failed. is.below (row ∷ front) other back (ap (λ some. row ∷ some) cut) failed;
      }

    pub first_is_least : (fails : List Row → Row → Bool) (i : ℕ) (earlier tables : List Members) (rows : List Row) (least : Option ℕ)
        → Tells fails i earlier → AreReadAs format i tables rows → IsLeast fails rows least
        → first (each clause AtCgroup i earlier tables) ≡ numbered least
    first_is_least fails i earlier [] [] None tells read is = refl
    first_is_least fails i earlier [] [] (Some number) tells read is =
        let cut = is.found number refl in
        absurd (not_empty cut.0 cut.1 cut.2 cut.3)
    first_is_least fails i earlier (table ∷ tables) (row ∷ rows) least tells read is =
        let here : List TreeFault = clause earlier (AtCgroup i) table in
        let later : List TreeFault = each clause AtCgroup (i + 1) (earlier ++ table ∷ []) tables in
        let told = ap (λ some. first (clause some (AtCgroup i) table)) (sym (append-nil earlier)) ∙ tells [] [] i table row tt read.0 in
        elim (fails [] row) as (λ b. fails [] row ≡ b → first here ≡ cond b (Some (fault (AtCgroup i))) None
        → first (here ++ later) ≡ numbered least) [
          | true ↦ λ failed is_fault.
              first_some here later (fault (AtCgroup i)) is_fault
              ∙ ap numbered (sym (least_here fails row rows least is i table tables read failed))
          | false ↦ λ passed is_none.
              first_none here later is_none
              ∙ first_is_least (λ met. fails (row ∷ met)) (i + 1) (earlier ++ table ∷ []) tables rows least
              (λ more met number other next said own.
              ap (λ some. first (clause some (AtCgroup number) other)) (append_assoc earlier (table ∷ []) more)
              ∙ tells (table ∷ more) (row ∷ met) number other next (read.0, said) own)
              read.1 (least_later fails row rows least is passed)
        ] refl told
    first_is_least fails i earlier tables rows least tells read is = absurd read

-- ---- the same rows in another order

-- which rows have a path is the same in both
abbrev pub AreSameRows : List Row → List Row → Type 0
AreSameRows rows others = (path : Names) → filter (at_path path) rows ≡ filter (at_path path) others

-- where the same rows fail at cuts that correspond
least_moved : (fails bad : List Row → Row → Bool) (rows others : List Row) (least : Option ℕ) → AreSameRows rows others
    → ((front : List Row) (row : Row) (back before : List Row) → front ++ row ∷ back ≡ rows
    → filter (at_path row.path) before ≡ filter (at_path row.path) front → fails front row ≡ bad before row)
    → IsLeast fails rows least → IsLeast bad others least
least_moved fails bad rows others least same agree is = record {
  found = λ number found.
      let cut = is.found number found in
      let row : Row = cut.1 in
      let moved = cut_moved (at_path row.path) rows others (same row.path) cut.0 row cut.2 cut.3 (same_path_refl row.path) in
      (moved.0, row, moved.1, moved.2, sym (agree cut.0 row cut.2 moved.0 cut.3 moved.3) ∙ cut.4, cut.5);
  below = λ before row after cut failed.
      let moved = cut_moved (at_path row.path) others rows (sym (same row.path)) before row after cut (same_path_refl row.path) in
      is.below moved.0 row moved.1 moved.2 (agree moved.0 row moved.1 before moved.2 (sym moved.3) ∙ failed);
}

-- ---- rows in order

-- what a stable sort leaves
tied : (o : Ordering) → (not (is_lt o) && not (is_lt (ordering_reverse o))) ≡ is_eq o
tied o = grind arith

ties_is : (p q : Names) → (not (is_lt (path_cmp p q)) && not (is_lt (path_cmp q p))) ≡ same_path p q
ties_is p q =
    ap (λ o. not (is_lt (path_cmp p q)) && not (is_lt o)) (path_cmp_total.antisymm q p)
    ∙ tied (path_cmp p q) ∙ sym (same_path-ties p q)

one_row : (path : Names) (row : Row) (rows sorted : List Row) → IsStableByKey (λ row. row.path) path_cmp rows sorted
    → filter (at_path path) sorted ≡ filter (at_path path) rows
one_row path row rows sorted stable =
    let key : Row = record row { path = path } in
    let lt : Row → Row → Bool = λ one other. is_lt (path_cmp one.path other.path) in
    sym (filter_agree (ties lt key) (at_path path) (λ other. ties_is path other.path) sorted)
    ∙ stable key ∙ filter_agree (ties lt key) (at_path path) (λ other. ties_is path other.path) rows

pub same_rows : (rows sorted : List Row) → IsStableByKey (λ row. row.path) path_cmp rows sorted → AreSameRows sorted rows
same_rows [] [] stable path = refl
same_rows [] (row ∷ sorted) stable path = one_row path row [] (row ∷ sorted) stable
same_rows (row ∷ rows) sorted stable path = one_row path row (row ∷ rows) sorted stable

-- what isn't after one and isn't before it is that one
between : (o : Ordering) → is_gt o ≡ false → is_lt o ≡ false → is_eq o ≡ false → ⊥
between o low high apart = grind arith

-- a path that comes before a row's isn't one of the rows from it on
pub none_behind : (front : List Row) (row : Row) (back : List Row) → AreInOrder (front ++ row ∷ back) → (path : Names)
    → is_gt (path_cmp path row.path) ≡ false → same_path path row.path ≡ false → filter (at_path path) (row ∷ back) ≡ []
none_behind front row back order path low apart =
    filter_none (at_path path) (row ∷ back) (λ i d inside.
    let other : Row = get_or (row ∷ back) i d in
    let far = sorted_far (λ (one other : Row). is_lt (path_cmp one.path other.path))
    (ranks_by path_cmp_total (λ (one : Row). one.path)) (front ++ row ∷ back) order (length front + 0) (length front + i) d (omega arith)
    (omega (arith, length-append front (row ∷ back))) in
    let later = get_or-append-add front (row ∷ back) i d in
    let here = get_or-append-add front (row ∷ back) 0 d in
    false_from_ne_true (same_path path other.path) (λ is.
    between (path_cmp path row.path) low (ap (λ p. is_lt (path_cmp p row.path)) (same_path-is path other.path is)
    ∙ sym (λ j. is_lt (path_cmp (later j).path (here j).path)) ∙ far) (sym (same_path-ties path row.path) ∙ apart)))

-- so the rows at the parent's path are those before
parent_before : (front : List Row) (row : Row) (back : List Row) → AreInOrder (front ++ row ∷ back) → is_root row.path ≡ false
    → filter (at_path (parent row.path)) (front ++ row ∷ back) ≡ filter (at_path (parent row.path)) front
parent_before front row back order below =
    let path : Names = parent row.path in
    let low = inside-first path row.path (inside-take (length row.path - 1) row.path) in
    let apart = same_path_comm path row.path ∙ parent-other row.path below in
    filter-append (at_path path) front (row ∷ back)
    ∙ ap (λ some. filter (at_path path) front ++ some) (none_behind front row back order path low apart)
    ∙ append-nil (filter (at_path path) front)

-- ---- where no path stands twice

abbrev pub AreOnce : List Row → Type 0
AreOnce rows = (path : Names) → filter (at_path path) rows ≡ option_to_list (head_of (filter (at_path path) rows))

pub once_from : (rows : List Row) (least : Option ℕ) → IsLeast (λ earlier row. has_met earlier row.path) rows least → least ≡ None
    → AreOnce rows
once_from rows least is none path = once_kept (at_path path) rows (λ front row back cut at.
    false_from_ne_true (list_any (at_path path) front) (λ met.
    let own = ap (has_met front) (sym (same_path-is path row.path at)) ∙ met in
    true≢false (sym (ap is_some (is.below front row back cut own).1) ∙ ap is_some none)))

pub once_moved : (rows others : List Row) → AreSameRows rows others → AreOnce rows → AreOnce others
once_moved rows others same once path = subst (λ some. some ≡ option_to_list (head_of some)) (same path) (once path)

-- the last of them is the first
last_is_first : (rows : List Row) → AreOnce rows → (path : Names) (front : List Row)
    → filter (at_path path) front ≡ filter (at_path path) rows → enabled_by front path ≡ enabled_first rows path
last_is_first rows once path front same =
    ap (option_map (λ (row : Row). row.cgroup.enabled))
    (find_filter (at_path path) (reverse front)
    ∙ ap head_of (filter_reverse (at_path path) front ∙ ap reverse (same ∙ once path))
    ∙ of_one (head_of (filter (at_path path) rows)) ∙ sym (find_filter (at_path path) rows))
  where
    of_one : (o : Option Row) → head_of (reverse (option_to_list o)) ≡ o
    of_one None = refl
    of_one (Some row) = refl

pub over_before : (rows sorted : List Row) → AreSameRows sorted rows → AreInOrder sorted → AreOnce rows → (at_root : ControllerSet)
    → (front : List Row) (row : Row) (back : List Row) → front ++ row ∷ back ≡ sorted
    → over_in at_root front row.path ≡ over_first at_root rows row.path
over_before rows sorted same order once at_root front row back cut =
    let path : Names = parent row.path in
    elim (is_root row.path) as (λ b. is_root row.path ≡ b
    → cond b (Some at_root) (enabled_by front path) ≡ cond b (Some at_root) (enabled_first rows path)) [
      | true ↦ λ _. refl
      | false ↦ λ below. last_is_first rows once path front
          (sym (parent_before front row back (subst AreInOrder (sym cut) order) below) ∙ ap (filter (at_path path)) cut ∙ same path)
    ] refl

-- ---- the root

not_root : (path : Names) → is_root path ≡ false → same_path [] path ≡ false
not_root path below = grind arith

root_met : (row : Row) (back : List Row) → AreInOrder (row ∷ back) → (b : Bool) → is_root row.path ≡ b → b ≡ has_met (row ∷ back) []
root_met row back order true is = sym (ap (λ path. same_path [] path || has_met back []) (is_root-is row.path is))
root_met row back order false is =
    let none = none_behind [] row back order [] (inside-first [] row.path refl) (not_root row.path is) in
    sym (any_filter (at_path []) (row ∷ back) ∙ ap (λ some. is_some (head_of some)) none)

root_is : (sorted : List Row) → AreInOrder sorted → has_root (entries_from [] sorted) ≡ has_met sorted []
root_is [] order = refl
root_is (row ∷ back) order = root_met row back order (is_root row.path) refl

-- ---- the clauses on rows together

unless_fault : (b : Bool) (fault : TreeFault) → first (unless (not b) fault) ≡ cond b (Some fault) None
unless_fault b fault = grind arith

present_fault : (b : Bool) (fault : TreeFault) → first (unless b fault) ≡ cond b None (Some fault)
present_fault b fault = grind arith

past_fault : (set : ControllerSet) (found : Option ControllerSet) (fault : TreeFault)
    → first (present found (λ available. unless (is_within set available) fault)) ≡ cond (is_past set found) (Some fault) None
past_fault set None fault = refl
past_fault set (Some available) fault =
    elim (is_within set available) as (λ b. first (unless b fault) ≡ cond (not b) (Some fault) None) [ true ↦ refl | false ↦ refl ]

orphan_fault : (root there : Bool) (found : Option Row) (at_root : ControllerSet) (fault : TreeFault) → there ≡ is_some found
    → first (unless (root || there) fault)
    ≡ cond (not (is_some (cond root (Some at_root) (option_map (λ (row : Row). row.cgroup.enabled) found)))) (Some fault) None
orphan_fault root there found at_root fault is = grind arith

files_within : (format : Format) (i : ℕ) (table : Members) (row : Row) (above : ControllerSet) → IsReadAs format i table row
    → list_all (λ file. not (is_named (File file) table) || stands_under above file) all_files ≡ is_within row.needed above
files_within format i table row above read =
    all_within (λ file. is_named (File file) table) above ∙ ap (λ set. is_within set above) (sym read.needed)

standing_is : (format : Format) (i : ℕ) (table : Members) (row : Row) (above : ControllerSet) → IsReadAs format i table row
    → names_standing format row.path above table ≡ (is_within row.needed above && tell_standing row.path above row.told)
standing_is format i table row above read =
    λ j. files_within format i table row above read j && tell_standing row.path above (sym read.told j)

both_fault : (a b : Bool) (fault : TreeFault) → first (unless (a && b) fault) ≡ cond (not a || not b) (Some fault) None
both_fault true true fault = refl
both_fault true false fault = refl
both_fault false true fault = refl
both_fault false false fault = refl

names_fault : (row : Row) (found : Option ControllerSet) (fault : TreeFault)
    → first (present found (λ above. unless (is_within row.needed above && tell_standing row.path above row.told) fault))
    ≡ cond (names_past row found) (Some fault) None
names_fault row None fault = refl
names_fault row (Some above) fault =
    both_fault (is_within row.needed above) (tell_standing row.path above row.told) fault

-- the faults in their order
in_turn : (twice orphan within files : Option ℕ) (root : Bool) (a b c d e : Option TreeFault)
    → a ≡ option_map (λ number. Duplicate (AtCgroup number)) twice → b ≡ cond root None (Some NoRoot)
    → (twice ≡ None → (c ≡ option_map (λ number. NoParent (AtCgroup number)) orphan)
    × (d ≡ option_map (λ number. TopDown (AtCgroup number)) within) × (e ≡ option_map (λ number. NoSuchFile (AtCgroup number)) files))
    → option_or (option_or (option_or (option_or a b) c) d) e
    ≡ least_fault (record { twice = twice; orphan = orphan; not_within = within; no_file = files }) root
in_turn twice orphan within files root a b c d e one two rest = grind arith

module _ (format : Format) (controllers : ControllerSet) (tables : List Members) (rows : List Row)
    (read : AreReadAs format 1 tables rows) where
  -- the rows that fail
  abbrev is_twice : List Row → Row → Bool
  is_twice earlier row = has_met earlier row.path

  abbrev has_no_parent : Row → Bool
  has_no_parent row = not (is_some (over_first no_controllers rows row.path))

  abbrev enables_more : Row → Bool
  enables_more row = is_past row.cgroup.enabled (over_first controllers rows row.path)

  abbrev needs_more : Row → Bool
  needs_more row = names_past row (over_first no_controllers rows row.path)

  twice_tells : Tells format twice_clause Duplicate is_twice 1 []
  twice_tells earlier met i table row before said =
      rw (said.path, there_is format 1 earlier met before row.path) (unless_fault (has_met met row.path) (Duplicate (AtCgroup i)))

  orphan_tells : Tells format (orphan_clause tables) NoParent (λ _. has_no_parent) 1 []
  orphan_tells earlier met i table row before said =
      let above : Names = parent row.path in
      rw said.path
      (orphan_fault (is_root row.path) (is_there tables above) (find (at_path above) rows) no_controllers (NoParent (AtCgroup i))
      (there_is format 1 tables rows read above ∙ sym (is_some-find (at_path above) rows)))

  within_tells : Tells format (within_clause controllers tables) TopDown (λ _. enables_more) 1 []
  within_tells earlier met i table row before said =
      let enabled = (said_of_known format (codes "enabled") table row.cgroup.enabled said.enabled).0 in
      rw (said.path, enabled, over_is format 1 tables rows read controllers row.path)
      (past_fault row.cgroup.enabled (over_first controllers rows row.path) (TopDown (AtCgroup i)))

  files_tells : Tells format (files_clause format tables) NoSuchFile (λ _. needs_more) 1 []
  files_tells earlier met i table row before said =
      rw said.path
      ((λ j. first (present (over_is format 1 tables rows read no_controllers row.path j)
      (λ above. unless (standing_is format i table row above said j) (NoSuchFile (AtCgroup i)))))
      ∙ names_fault row (over_first no_controllers rows row.path) (NoSuchFile (AtCgroup i)))

  module _ (sorted : List Row) (least : Least) (same : AreSameRows sorted rows) (order : AreInOrder sorted)
      (tested : HasTested controllers sorted least) where
    met_same : (path : Names) (one other : List Row) → filter (at_path path) one ≡ filter (at_path path) other
        → has_met one path ≡ has_met other path
    met_same path one other is =
        any_filter (at_path path) one ∙ ap (λ some. is_some (head_of some)) is ∙ sym (any_filter (at_path path) other)

    twice_least : IsLeast is_twice rows least.twice
    twice_least =
        least_moved is_twice is_twice sorted rows least.twice same
        (λ front row back before cut kept. met_same row.path front before (sym kept)) tested.twice

    twice_first : first (each twice_clause AtCgroup 1 [] tables) ≡ option_map (λ number. Duplicate (AtCgroup number)) least.twice
    twice_first = first_is_least format twice_clause Duplicate is_twice 1 [] tables rows least.twice twice_tells read twice_least

    root_first : first (unless (is_there tables []) NoRoot) ≡ cond (has_root (entries_from [] sorted)) None (Some NoRoot)
    root_first =
        present_fault (is_there tables []) NoRoot
        ∙ ap (λ b. cond b None (Some NoRoot))
        (there_is format 1 tables rows read [] ∙ sym (root_is sorted order ∙ met_same [] sorted rows (same [])))

    module _ (once : AreOnce rows) where
      -- a test of a row alone
      alone_first : (clause : CgroupClause) (fault : Place → TreeFault) (fails : List Row → Row → Bool) (bad : Row → Bool)
          (number : Option ℕ) → Tells format clause fault (λ _. bad) 1 [] → IsLeast fails sorted number
          → ((front : List Row) (row : Row) (back : List Row) → front ++ row ∷ back ≡ sorted → fails front row ≡ bad row)
          → first (each clause AtCgroup 1 [] tables) ≡ option_map (λ number. fault (AtCgroup number)) number
      alone_first clause fault fails bad number tells is agree =
          first_is_least format clause fault (λ _. bad) 1 [] tables rows number tells read
          (least_moved fails (λ _. bad) sorted rows number same (λ front row back _ cut _. agree front row back cut) is)

      orphan_first : first (each (orphan_clause tables) AtCgroup 1 [] tables) ≡ option_map (λ n. NoParent (AtCgroup n)) least.orphan
      orphan_first =
          alone_first (orphan_clause tables) NoParent is_orphan has_no_parent least.orphan orphan_tells tested.orphan
          (λ front row back cut. ap (λ o. not (is_some o)) (over_before rows sorted same order once no_controllers front row back cut))

      within_first : first (each (within_clause controllers tables) AtCgroup 1 [] tables)
          ≡ option_map (λ number. TopDown (AtCgroup number)) least.not_within
      within_first =
          alone_first (within_clause controllers tables) TopDown (is_not_within controllers) enables_more least.not_within within_tells
          tested.not_within
          (λ front row back cut. ap (is_past row.cgroup.enabled) (over_before rows sorted same order once controllers front row back cut))

      files_first : first (each (files_clause format tables) AtCgroup 1 [] tables) ≡ option_map (λ n. NoSuchFile (AtCgroup n)) least.no_file
      files_first =
          alone_first (files_clause format tables) NoSuchFile has_no_file needs_more least.no_file files_tells tested.no_file
          (λ front row back cut. ap (names_past row) (over_before rows sorted same order once no_controllers front row back cut))

    pub faults_first : first (cgroup_faults format (Some controllers) tables) ≡ least_fault least (has_root (entries_from [] sorted))
    faults_first =
        simp first_or
        (in_turn least.twice least.orphan least.not_within least.no_file (has_root (entries_from [] sorted)) _ _ _ _ _ twice_first
        root_first
        (λ none.
        let once = once_moved sorted rows same (once_from sorted least.twice tested.twice none) in
        (orphan_first once, within_first once, files_first once)))

pub least_fault_is_first : (format : Format) (controllers : ControllerSet) (tables : List Members) (rows sorted : List Row) (least : Least)
    → AreReadAs format 1 tables rows → AreInOrder sorted → IsStableByKey (λ row. row.path) path_cmp rows sorted
    → HasTested controllers sorted least
    → first (cgroup_faults format (Some controllers) tables) ≡ least_fault least (has_root (entries_from [] sorted))
least_fault_is_first format controllers tables rows sorted least read order stable tested =
    faults_first format controllers tables rows read sorted least (same_rows rows sorted stable) order tested
