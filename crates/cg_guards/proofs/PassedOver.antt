-- Why limit files beyond `LimitFile` may be passed over.
use Rattle.std.proofs.Common.{◌≡◌, ℕ, zero, suc, ◌-◌, Bool, true, false, ◌&&◌, ◌||◌, not, List, [], ◌∷◌, ◌++◌, map, length, take, take_all, get_or, Option, Some, None, is_none, option_map, option_and_then, refl, sym, ap, ◌∙◌, arith}
use Rattle.std.specs.Prelude.{slice_get}
use Rattle.std.specs.List.{flat_map, list_all}
use Rattle.std.specs.FinMap as finite
use Rattle.std.proofs.lemmas.Bool.{false≢true, and_parts}
use Rattle.std.proofs.lemmas.Grind.{flat_map-append}
use Rattle.cg_cgroup.specs.Paths.{Names, is_root}
use Rattle.cg_cgroup.specs.Identity.{Identity}
use Rattle.cg_cgroup.specs.Users.{reaches}
use Rattle.cg_cgroup.specs.Files.{all_files, all_others, brought_by}
use Rattle.cg_cgroup.specs.Cgroups.{other_in, untold_in}
use Rattle.cg_cgroup.specs.Told.{told_in, file_untold}
use Rattle.cg_cgroup.specs.declared.user.Entry.{Entry}
use Rattle.cg_cgroup.specs.declared.cgroup.Cgroup.{Cgroup}
use Rattle.cg_cgroup.specs.declared.other_file.OtherFile.{OtherFile}
use Rattle.cg_cgroup.specs.declared.files.EntryName.TheVariants.{File, Other}
use Rattle.cg_cgroup.specs.declared.files.LimitFile.TheVariants.{MaxDescendants}
use Rattle.cg_model.specs.States.{State, row_at, untold_at, entry_at}
use Rattle.cg_model.specs.Clauses.{first, present, unless}
use Rattle.cg_model.specs.Guards.{Guarded, ancestor, ancestors, limit_file, guarded_entries, entry_failures}
use Rattle.cg_model.specs.declared.guard.Failed.{Failed}
use Rattle.cg_model.proofs.StateTold.{or_untold}
use Rattle.cg_guards.specs.GuardedUsers.{is_alike}
use Rattle.cg_guards.specs.Asked.{asked_before, asked_others, asked_behind, asked_entries, is_covered, are_covered, passes_others}
use Rattle.cg_guards.proofs.TableWalk.{get_front, get_back, length-ancestors, get-ancestors}
use Rattle.cg_guards.proofs.AskedTable.{guarded_is}
use Rattle.cg_guards.proofs.AlikeEntries.{alike-reached}

-- ---- lists

none_first : {A : Type 0} (xs ys : List A) → first (xs ++ ys) ≡ None → (xs ≡ []) × (first ys ≡ None)
none_first [] ys h = (refl, h)
none_first (x ∷ xs) ys h = let never : ⊥ = cc in absurd never

module _ {A B : Type 0} (f : A → List B) where
  -- where nothing comes of a list, nothing comes of one in it
  none_of : (xs : List A) (k : ℕ) (x : A) → slice_get xs k ≡ Some x → first (flat_map f xs) ≡ None → f x ≡ []
  none_of [] zero x is none = let never : ⊥ = cc in absurd never
  none_of [] (suc k) x is none = let never : ⊥ = cc in absurd never
  none_of (y ∷ ys) zero x is none = ap f (same y x is) ∙ (none_first (f y) (flat_map f ys) none).0
    where
      same : (y x : A) → Some y ≡ Some x → x ≡ y
      same y x h = cc
  none_of (y ∷ ys) (suc k) x is none = none_of ys k x is (none_first (f y) (flat_map f ys) none).1

  -- what is left out where nothing comes of it once nothing comes of what is before it
  left_out : (before others behind : List A) → (first (flat_map f before) ≡ None → flat_map f others ≡ [])
      → first (flat_map f (before ++ behind)) ≡ first (flat_map f (before ++ (others ++ behind)))
  left_out before others behind nothing =
      ap first (flat_map-append f before behind)
      ∙ by_first (flat_map f before) (flat_map f others) (flat_map f behind) nothing
      ∙ sym (ap first (flat_map-append f before (others ++ behind)
      ∙ ap (λ rest. flat_map f before ++ rest) (flat_map-append f others behind)))
    where
      by_first : (xs os ys : List B) → (first xs ≡ None → os ≡ []) → first (xs ++ ys) ≡ first (xs ++ (os ++ ys))
      by_first [] os ys h = ap (λ o. first (o ++ ys)) (sym (h refl))
      by_first (x ∷ xs) os ys h = refl

-- ---- entries that are like others

module _ (user : Identity) (one other : Entry) (off_one : reaches user one ≡ false) (off_other : reaches user other ≡ false) where
  off_covered : (entry : Entry) → is_covered one other (Some entry) ≡ true → reaches user entry ≡ false
  off_covered entry h =
      elim (is_alike one entry) as
      (λ b. is_alike one entry ≡ b → (b || is_alike other entry) ≡ true → reaches user entry ≡ false) [
        | true ↦ λ is _. sym (alike-reached user one entry is) ∙ off_one
        | false ↦ λ _ is. sym (alike-reached user other entry is) ∙ off_other
      ] refl h

  none_fails : (failed : Failed) (entry : Option Entry) → is_covered one other entry ≡ true
      → present entry (λ entry. unless (not (reaches user entry)) failed) ≡ []
  none_fails failed None h = refl
  none_fails failed (Some entry) h = ap (λ b. unless (not b) failed) (off_covered entry h)

get_covered : (one other : Entry) (entries : List (Option Entry)) (n : ℕ) → list_all (is_covered one other) entries ≡ true
    → is_covered one other (get_or entries n None) ≡ true
get_covered one other [] zero h = refl
get_covered one other [] (suc n) h = refl
get_covered one other (entry ∷ entries) zero h = (and_parts (is_covered one other entry) (list_all (is_covered one other) entries) h).0
get_covered one other (entry ∷ entries) (suc n) h =
    get_covered one other entries n (and_parts (is_covered one other entry) (list_all (is_covered one other) entries) h).1

untold_covered : (above : Entry) (row : Cgroup) → are_covered above row ≡ true → (file : OtherFile)
    → is_covered above row.max_descendants.entry (untold_in row file) ≡ true
untold_covered above row h file =
    let parts = and_parts (is_covered above row.max_descendants.entry row.freeze)
    (list_all (is_covered above row.max_descendants.entry) row.others.entries) h in
    elim (brought_by file) as (λ by.
    is_covered above row.max_descendants.entry (elim by [ None ↦ row.freeze | Some controller ↦ other_in row controller ]) ≡ true) [
      | None ↦ parts.0
      | Some controller ↦ get_covered above row.max_descendants.entry row.others.entries _ parts.1
    ]

-- ---- a subtree whose files are passed over

record Passed (st : State) (subtree : Names) : Type 0 where
  root : Cgroup
  row : Cgroup
  untold : finite.get st.told subtree ≡ None
  root_is : row_at st [] ≡ Some root
  row_is : row_at st subtree ≡ Some row
  covered : are_covered root.procs row ≡ true

passed : (st : State) (subtree : Names) → passes_others st subtree ≡ true → Passed st subtree
passed st subtree h =
    elim (finite.get st.told subtree) as (λ t. finite.get st.told subtree ≡ t → (is_none t && here) ≡ true → Passed st subtree) [
      | Some files ↦ λ _ h. absurd (false≢true h)
      | None ↦ λ untold h.
          elim (row_at st []) as (λ r. row_at st [] ≡ r
          → elim r [ None ↦ false | Some root ↦ elim (row_at st subtree) [ None ↦ false | Some row ↦ are_covered root.procs row ] ] ≡ true
          → Passed st subtree) [
            | None ↦ λ _ h. absurd (false≢true h)
            | Some root ↦ λ root_is h.
                elim (row_at st subtree) as (λ r. row_at st subtree ≡ r
                → elim r [ None ↦ false | Some row ↦ are_covered root.procs row ] ≡ true → Passed st subtree) [
                  | None ↦ λ _ h. absurd (false≢true h)
                  | Some row ↦ λ row_is h. record {
                    root = root;
                    row = row;
                    untold = untold;
                    root_is = root_is;
                    row_is = row_is;
                    covered = h;
                  }
                ] refl h
          ] refl h
    ] refl h
  where
    here : Bool
    here = elim (row_at st []) [
      | None ↦ false
      | Some root ↦ elim (row_at st subtree) [ None ↦ false | Some row ↦ are_covered root.procs row ]
    ]

module _ (st : State) (user : Identity) (subtree : Names) (p : Passed st subtree) where
  whole : take (length subtree) subtree ≡ subtree
  whole = take_all (length subtree) subtree (omega arith)

  entry_is : (file : OtherFile) → entry_at st (take (length subtree) subtree) (Other file) ≡ untold_in p.row file
  entry_is file =
      ap (λ path. entry_at st path (Other file)) whole
      ∙ ap (λ files. option_map (λ told. told.entry)
      (or_untold (option_and_then (λ files. told_in files file) files) (untold_at st subtree file))) p.untold
      ∙ ap (λ r. option_map (λ told. told.entry) (option_map file_untold (option_and_then (λ row. untold_in row file) r))) p.row_is
      ∙ back (untold_in p.row file)
    where
      back : (entry : Option Entry) → option_map (λ told. told.entry) (option_map file_untold entry) ≡ entry
      back None = refl
      back (Some entry) = refl

  not_reached : (failed : Failed) (b : Bool) → unless (not b) failed ≡ [] → b ≡ false
  not_reached failed true h = let never : ⊥ = cc in absurd never
  not_reached failed false h = refl

  module _ (filled : is_root subtree ≡ false) (none : first (flat_map (entry_failures st user subtree) (asked_before subtree)) ≡ None) where
    root_at : (path : Names) → is_root path ≡ false
        → slice_get (asked_before path) (length path - 1) ≡ Some (ancestor 0)
    root_at [] h = absurd (false≢true (sym h))
    root_at (name ∷ path) h =
        let e : length (name ∷ path) - 1 - (length (name ∷ path) - 1) ≡ 0 = omega arith in
        get_front (ancestors (length (name ∷ path))) (map (limit_file (length (name ∷ path))) (map File all_files))
        (length (name ∷ path) - 1) (omega (arith, length-ancestors (length (name ∷ path))))
        ∙ get-ancestors (length (name ∷ path)) (length (name ∷ path) - 1) (omega arith)
        ∙ ap (λ n. Some (ancestor n)) e

    off_root : reaches user p.root.procs ≡ false
    off_root =
        not_reached (record { guard = (ancestor 0).guard; len = 0 }) (reaches user p.root.procs)
        (sym (ap (λ r. present (option_and_then (λ (row : Cgroup). Some row.procs) r)
        (λ entry. unless (not (reaches user entry)) (record { guard = (ancestor 0).guard; len = 0 }))) p.root_is)
        ∙ none_of (entry_failures st user subtree) (asked_before subtree) (length subtree - 1) (ancestor 0) (root_at subtree filled) none)

    abbrev own : Guarded
    own = limit_file (length subtree) (File MaxDescendants)

    own_at : slice_get (asked_before subtree) (length subtree) ≡ Some own
    own_at =
        let e = length-ancestors (length subtree) in
        let zeroth : length subtree - length (ancestors (length subtree)) ≡ 0 = omega (arith, e) in
        get_back (ancestors (length subtree)) (map (limit_file (length subtree)) (map File all_files)) (length subtree) (omega (arith, e))
        ∙ ap (slice_get (map (limit_file (length subtree)) (map File all_files))) zeroth

    off_own : reaches user p.row.max_descendants.entry ≡ false
    off_own =
        not_reached (record { guard = own.guard; len = own.len }) (reaches user p.row.max_descendants.entry)
        (sym (ap (λ path. present (option_and_then (λ (row : Cgroup). Some row.max_descendants.entry) (row_at st path))
        (λ entry. unless (not (reaches user entry)) (record { guard = own.guard; len = own.len }))) whole
        ∙ ap (λ r. present (option_and_then (λ (row : Cgroup). Some row.max_descendants.entry) r)
        (λ entry. unless (not (reaches user entry)) (record { guard = own.guard; len = own.len }))) p.row_is)
        ∙ none_of (entry_failures st user subtree) (asked_before subtree) (length subtree) own own_at none)

    others_hold : (files : List OtherFile)
        → flat_map (entry_failures st user subtree) (map (limit_file (length subtree)) (map Other files)) ≡ []
    others_hold [] = refl
    others_hold (file ∷ files) = λ i. one i ++ others_hold files i
      where
        guarded : Guarded
        guarded = limit_file (length subtree) (Other file)

        one : entry_failures st user subtree (limit_file (length subtree) (Other file)) ≡ []
        one =
            ap (λ entry. present entry (λ entry. unless (not (reaches user entry)) (record { guard = guarded.guard; len = guarded.len })))
            (entry_is file)
            ∙ none_fails user p.root.procs p.row.max_descendants.entry off_root off_own
            (record { guard = guarded.guard; len = guarded.len }) (untold_in p.row file) (untold_covered p.root.procs p.row p.covered file)

-- the first guard that fails is among the asked
pub first_asked : (st : State) (user : Identity) (subtree : Names) (passes : Bool) → is_root subtree ≡ false
    → passes ≡ passes_others st subtree
    → first (flat_map (entry_failures st user subtree) (asked_entries passes subtree))
    ≡ first (flat_map (entry_failures st user subtree) (guarded_entries subtree))
first_asked st user subtree false filled is = ap (λ xs. first (flat_map (entry_failures st user subtree) xs)) (sym (guarded_is subtree))
first_asked st user subtree true filled is =
    left_out (entry_failures st user subtree) (asked_before subtree) (asked_others subtree) (asked_behind subtree)
    (λ none. others_hold st user subtree (passed st subtree (sym is)) filled none all_others)
    ∙ ap (λ xs. first (flat_map (entry_failures st user subtree) xs)) (sym (guarded_is subtree))
