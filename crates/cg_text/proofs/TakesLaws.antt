-- What the keys of a table take, member by member, is what the table has at each of them.
use Rattle.std.proofs.Common.{◌≡◌, ℕ, Bool, true, false, not, cond, List, [], ◌∷◌, ◌++◌, map as map_list, option_map, is_some, codes, drop, arith, String, Global, Option, Some, None, Ordering, Less, string_bytes, nat_cmp, is_eq, refl, sym, ap, ◌∙◌}
use Rattle.std.specs.Prelude.{◌&&◌, ◌||◌, find}
use Rattle.std.specs.List.{list_any, list_all, AllByRecursion}
use Rattle.std.specs.List.Sorted.{IsStrictlySortedBy}
use Rattle.std.specs.Map.{keys_of, lookup}
use Rattle.std.specs.BTreeMap.{BTreeMap, is_at}
use Rattle.std.specs.Ordering.{match_ordering}
use Rattle.std.specs.String.{string_cmp}
use Rattle.std.specs.Cmp.Lexicographic.{slice_cmp, texts_ties, bytes_decides, nat_list_eq_equiv}
use Rattle.std.specs.Option.{option_or}
use Rattle.std.proofs.lemmas.Bool.{and_parts, not-true, true≢false}
use Rattle.std.proofs.lemmas.List.Folds.{find-append, list_all-append}
use Rattle.toml.specs.Data.{Data, table, Members, no_members, member, get_member}
use Rattle.toml.specs.View.{view, table_view, members_view}
use Rattle.toml.specs.declared.value.Value.{Value}
use Rattle.toml.proofs.Views.{view-lookup, view-Table}
use Rattle.toml.specs.declared.value.Value.TheVariants.{Table}
use Rattle.cg_cgroup.proofs.Options.{is_some-mapped}
use Rattle.cg_cgroup.specs.Paths.{same_name}
use Rattle.cg_cgroup.specs.Files.{all_files, file_name, entry_text, entry_known_as, all_others, other_name, known_others}
use Rattle.cg_cgroup.specs.Texts as texts
use Rattle.cg_cgroup.specs.declared.files.LimitFile.{LimitFile}
use Rattle.cg_cgroup.specs.declared.files.EntryName.{EntryName}
use Rattle.cg_cgroup.specs.declared.other_file.OtherFile.{OtherFile}
use Rattle.cg_cgroup.specs.declared.files.EntryName.TheVariants.{Dir, Procs, SubtreeControl, File, Other}
use Rattle.cg_format.specs.Form.{Key, must_have, may_have, are_among, fits_at, is_table, vocabulary, owner_keys, limit_keys, text_keys, file_keys_of, row_keys, is_text}
use Rattle.cg_text.specs.Keys.{flat_keys, takes, takes_all, allows_at, allows, allows_table}
use Rattle.cg_format.specs.declared.format.Format.{Format}
use Rattle.cg_format.specs.declared.format.Format.TheVariants.{One, Two, Four}
use Rattle.cg_text.specs.declared.tree.form.FlatTable.{FlatTable}
use Rattle.cg_text.specs.declared.tree.form.FlatTable.TheVariants.{Document, Process, Owner, Limit, Further}

-- ---- keys of different names

abbrev pub has_name : List ℕ → Key → Bool
has_name name key = same_name name key.name

abbrev pub are_apart : List Key → Bool
are_apart [] = true
are_apart (key ∷ keys) = list_all (λ other. not (same_name key.name other.name)) keys && are_apart keys

-- ---- a member before others

-- no member behind it has the same name
behind : (k : String Global) (es : List (String Global × Value)) → AllByRecursion (λ other. string_cmp k other ≡ Less) (keys_of es)
    → get_member (string_bytes k) (members_view es) ≡ None
behind k [] rise = refl
behind k (e ∷ es) rise =
    ap (λ o. match_ordering o (get_member (string_bytes k) (members_view es)) (Some (view e.1))
    (get_member (string_bytes k) (members_view es))) rise.0 ∙ behind k es rise.1

tied : (o : Ordering) (b : Bool) (found : Option Data) (held : Data) → b ≡ is_eq o → match_ordering o found (Some held) found
    ≡ cond b (Some held) found
tied o b found held is = grind arith

pub get_first : (key name : List ℕ) (held : Data) (rest : Members) → get_member key (member name held rest)
    ≡ cond (same_name key name) (Some held) (get_member key rest)
get_first key name held rest = tied (slice_cmp nat_cmp key name) (same_name key name) (get_member key rest) held (texts_ties key name)

-- ---- one member more

and_swap : (a b c : Bool) → (a && (b && c)) ≡ (b && (a && c))
and_swap a b c = grind arith

and_three : (t all any l m : Bool) → (t && l) ≡ (any && m) → (t && (all && l)) ≡ ((any && all) && m)
and_three t all any l m is = grind arith

pub name_is : (one other : List ℕ) → same_name one other ≡ true → one ≡ other
name_is one other same = (bytes_decides one other).0 same

abbrev taken : Option Key → Data → Bool
taken found held = elim found [ None ↦ false | Some key ↦ key.takes held ]

abbrev allowed : Key → Option Data → Bool
allowed key found = elim found [ None ↦ true | Some held ↦ key.takes held ]

module _ (name : List ℕ) (held : Data) (rest : Members) (none : get_member name rest ≡ None) where
  at_other : (key : Key) → same_name name key.name ≡ false → allows_at (member name held rest) key ≡ allows_at rest key
  at_other key other =
      ap (allowed key) (get_first key.name name held rest
      ∙ ap (λ b. cond b (Some held) (get_member key.name rest)) (nat_list_eq_equiv.symm key.name name ∙ other))

  at_same : (key : Key) → same_name name key.name ≡ true → allows_at (member name held rest) key ≡ key.takes held
  at_same key same =
      ap (allowed key) (get_first key.name name held rest
      ∙ ap (λ b. cond b (Some held) (get_member key.name rest)) (nat_list_eq_equiv.symm key.name name ∙ same))

  left_out : (key : Key) → same_name name key.name ≡ true → allows_at rest key ≡ true
  left_out key same = ap (allowed key) (ap (λ at. get_member at rest) (sym (name_is name key.name same)) ∙ none)

  at_others : (key : Key) (keys : List Key) → same_name name key.name ≡ true
      → list_all (λ other. not (same_name key.name other.name)) keys ≡ true
      → list_all (allows_at (member name held rest)) keys ≡ list_all (allows_at rest) keys
  at_others key [] same apart = refl
  at_others key (other ∷ keys) same apart =
      let parts = and_parts (not (same_name key.name other.name)) (list_all (λ other. not (same_name key.name other.name)) keys) apart in
      let here = at_other other (ap (λ at. same_name at other.name) (name_is name key.name same)
      ∙ not-true (same_name key.name other.name) parts.0) in
      let later = at_others key keys same parts.1 in
      λ i. here i && later i

  one_more : (keys : List Key) → are_apart keys ≡ true → (takes keys name held && list_all (allows_at rest) keys)
      ≡ (list_any (has_name name) keys && list_all (allows_at (member name held rest)) keys)
  one_more [] apart = refl
  one_more (key ∷ keys) apart =
      let parts = and_parts (list_all (λ other. not (same_name key.name other.name)) keys) (are_apart keys) apart in
      elim (same_name name key.name) as
      (λ b. same_name name key.name ≡ b
      → (taken (cond b (Some key) (find (has_name name) keys)) held && (allows_at rest key && list_all (allows_at rest) keys))
      ≡ ((b || list_any (has_name name) keys) &&
      (allows_at (member name held rest) key && list_all (allows_at (member name held rest)) keys))) [
        | true ↦ λ same.
            let here = at_same key same in
            let others = at_others key keys same parts.0 in
            ap (λ b. key.takes held && (b && list_all (allows_at rest) keys)) (left_out key same) ∙ (λ i. sym here i && sym others i)
        | false ↦ λ other.
            and_swap (takes keys name held) (allows_at rest key) (list_all (allows_at rest) keys)
            ∙ ap (λ b. allows_at rest key && b) (one_more keys parts.1)
            ∙ and_swap (allows_at rest key) (list_any (has_name name) keys) (list_all (allows_at (member name held rest)) keys)
            ∙ ap (λ b. list_any (has_name name) keys && (b && list_all (allows_at (member name held rest)) keys)) (sym (at_other key other))
      ] refl

-- ---- all members

none_allowed : (keys : List Key) → true ≡ list_all (allows_at no_members) keys
none_allowed [] = refl
none_allowed (key ∷ keys) = none_allowed keys

-- for members whose keys rise
pub takes_all_is : (keys : List Key) (es : List (String Global × Value)) → are_apart keys ≡ true
    → IsStrictlySortedBy string_cmp (keys_of es) → takes_all keys (members_view es) ≡ allows keys (members_view es)
unfolding IsStrictlySortedBy
takes_all_is keys [] apart rise = none_allowed keys
takes_all_is keys (e ∷ es) apart rise =
    ap (λ b. takes keys (string_bytes e.0) (view e.1) && b) (takes_all_is keys es apart rise.1)
    ∙ and_three (takes keys (string_bytes e.0) (view e.1)) (are_among keys (members_view es))
    (list_any (has_name (string_bytes e.0)) keys) (list_all (allows_at (members_view es)) keys)
    (list_all (allows_at (members_view (e ∷ es))) keys)
    (one_more (string_bytes e.0) (view e.1) (members_view es) (behind e.0 es rise.0) keys apart)

-- ---- a loop over members

module _ (keys : List Key) (all : List (String Global × Value)) (apart : are_apart keys ≡ true)
    (rise : IsStrictlySortedBy string_cmp (keys_of all)) where
  -- at a member that isn't taken
  pub not_taken : (left rest : List (String Global × Value)) (key : String Global) (value : Value) (name : List ℕ) (taken : Bool)
      → takes_all keys (members_view left) ≡ takes_all keys (members_view all) → left ≡ (key, value) ∷ rest → name ≡ string_bytes key
      → taken ≡ takes keys name (view value) → taken ≡ false → false ≡ allows keys (members_view all)
  not_taken left rest key value name taken so_far is named told isnt =
      let own = ap (λ name. takes keys name (view value)) (sym named) ∙ sym told ∙ isnt in
      sym (ap (λ es. takes_all keys (members_view es)) is ∙ ap (λ b. b && takes_all keys (members_view rest)) own) ∙ so_far
      ∙ takes_all_is keys all apart rise

  pub all_taken : (left : List (String Global × Value)) → takes_all keys (members_view left) ≡ takes_all keys (members_view all) → left ≡ []
      → true ≡ allows keys (members_view all)
  all_taken left so_far is = sym (ap (λ es. takes_all keys (members_view es)) is) ∙ so_far ∙ takes_all_is keys all apart rise

-- ---- the keys of each table

pub flat_apart : (kind : FlatTable) → are_apart (flat_keys kind) ≡ true
flat_apart Document = refl
flat_apart Process = refl
flat_apart (Owner One) = refl
flat_apart (Owner Two) = refl
flat_apart (Owner Four) = refl
flat_apart (Limit One) = refl
flat_apart (Limit Two) = refl
flat_apart (Limit Four) = refl
flat_apart (Further One) = refl
flat_apart (Further Two) = refl
flat_apart (Further Four) = refl

pub file_apart : (format : Format) → are_apart (file_keys_of format) ≡ true
file_apart One = refl
file_apart Two = refl
file_apart Four = refl

pub row_apart : (format : Format) → are_apart (row_keys format) ≡ true
row_apart format = refl

-- ---- tables none of whose keys has to be there

pub owner_allowed : (format : Format) (held : Data) → allows_table (owner_keys format) held ≡ is_table (owner_keys format) held
owner_allowed One (table rows) = refl
owner_allowed Two (table rows) = refl
owner_allowed Four (table rows) = refl
owner_allowed format held = refl

pub limit_allowed : (format : Format) (held : Data) → allows_table (limit_keys format) held ≡ is_table (limit_keys format) held
limit_allowed One (table rows) = refl
limit_allowed Two (table rows) = refl
limit_allowed Four (table rows) = refl
limit_allowed format held = refl

pub text_allowed : (format : Format) (held : Data) → allows_table (text_keys format) held ≡ is_table (text_keys format) held
text_allowed One (table rows) = refl
text_allowed Two (table rows) = refl
text_allowed Four (table rows) = refl
text_allowed format held = refl

-- at keys that may be left out
may_allowed : {A : Type 0} (name : A → List ℕ) (test : Data → Bool) (rows : Members) (xs : List A)
    → list_all (allows_at rows) (map_list (λ x. may_have (name x) test) xs)
    ≡ list_all (fits_at rows) (map_list (λ x. may_have (name x) test) xs)
may_allowed name test rows [] = refl
may_allowed name test rows (x ∷ xs) = ap (λ b. allows_at rows (may_have (name x) test) && b) (may_allowed name test rows xs)

pub files_allowed : (format : Format) (rows : Members) → allows (file_keys_of format) rows ≡ is_table (file_keys_of format) (table rows)
files_allowed format rows =
    let others = known_others (vocabulary format) in
    let limit : Data → Bool = is_table (limit_keys format) in
    let text : Data → Bool = is_table (text_keys format) in
    let files : List Key = map_list (λ file. may_have (file_name file) limit) all_files in
    let further : List Key = map_list (λ file. may_have (other_name file) text) others in
    ap
    (λ b.
    are_among (file_keys_of format) rows
    && (allows_at rows (may_have texts.cgroup_procs (is_table (owner_keys format)))
    && (allows_at rows (may_have texts.cgroup_subtree_control (is_table (owner_keys format))) && b)))
    (list_all-append (allows_at rows) files further
    ∙ (λ i. may_allowed file_name limit rows all_files i && may_allowed other_name text rows others i)
    ∙ sym (list_all-append (fits_at rows) files further))

-- ---- keys that have to be there

needed_at : (members : Members) (name : List ℕ) (test : Data → Bool) → fits_at members (must_have name test)
    ≡ (allows_at members (must_have name test) && is_some (get_member name members))
needed_at inside name test = grind arith

one_needed : (w a p r : Bool) → (w && ((a && p) && r)) ≡ ((w && (a && r)) && p)
one_needed w a p r = grind arith

-- a key that the map of a table has
pub has_key : (name : List ℕ) (es : List (String Global × Value))
    → is_some (lookup (is_at (λ key. slice_cmp nat_cmp name (string_bytes key))) es) ≡ is_some (get_member name (members_view es))
has_key name es =
    sym (is_some-mapped view (lookup (is_at (λ key. slice_cmp nat_cmp name (string_bytes key))) es)) ∙ ap is_some (view-lookup name es)

-- ---- tables with keys that have to be there

row_is : (format : Format) (members : Members) → is_table (row_keys format) (table members)
    ≡ (allows (row_keys format) members && is_some (get_member (codes "path") members))
row_is format members =
    let at : Key → Bool = allows_at members in
    ap (λ b. are_among (row_keys format) members && (b && list_all (fits_at members) (drop 1 (row_keys format))))
    (needed_at members (codes "path") is_text)
    ∙ one_needed (are_among (row_keys format) members) (at (must_have (codes "path") is_text))
    (is_some (get_member (codes "path") members)) (list_all at (drop 1 (row_keys format)))

-- a value that is a table, whose keys are allowed and that has a path
pub cgroup_is : (format : Format) (value : Value) (held : BTreeMap (String Global) Value) (fits has : Bool) → value ≡ Table held
    → fits ≡ allows (row_keys format) (table_view held) → has ≡ is_some (get_member (codes "path") (table_view held))
    → (fits && has) ≡ is_table (row_keys format) (view value)
cgroup_is format value held fits has is fit had =
    (λ i. fit i && had i) ∙ sym (row_is format (table_view held))
    ∙ sym (ap (λ value. is_table (row_keys format) (view value)) is ∙ ap (is_table (row_keys format)) (view-Table held))

-- ---- the keys of a table of files

find_map : {A B : Type 0} (test : B → Bool) (f : A → B) (xs : List A) → find test (map_list f xs) ≡ option_map f (find (λ x. test (f x)) xs)
find_map test f [] = refl
find_map test f (x ∷ xs) =
    elim (test (f x)) as (λ b. cond b (Some (f x)) (find test (map_list f xs))
    ≡ option_map f (cond b (Some x) (find (λ x. test (f x)) xs))) [ true ↦ refl | false ↦ find_map test f xs ]

-- what may stand at the name of an entry
abbrev pub takes_entry : Format → Option EntryName → Data → Bool
takes_entry format None held = false
takes_entry format (Some Dir) held = false
takes_entry format (Some (File file)) held = is_table (limit_keys format) held
takes_entry format (Some (Other file)) held = is_table (text_keys format) held
takes_entry format (Some name) held = is_table (owner_keys format) held

module _ (format : Format) (text : List ℕ) (held : Data) where
  abbrev file_key : LimitFile → Key
  file_key file = may_have (file_name file) (is_table (limit_keys format))

  abbrev other_key : OtherFile → Key
  other_key file = may_have (other_name file) (is_table (text_keys format))

  abbrev is_entry : EntryName → Bool
  is_entry name = same_name text (entry_text name)

  of_file : (found : Option LimitFile) → taken (option_map file_key found) held ≡ takes_entry format (option_map File found) held
  of_file None = refl
  of_file (Some file) = refl

  of_other : (found : Option OtherFile) → taken (option_map other_key found) held ≡ takes_entry format (option_map Other found) held
  of_other None = refl
  of_other (Some file) = refl

  files_taken : (files : List LimitFile)
      → taken (find (has_name text) (map_list file_key files)) held ≡ takes_entry format (find is_entry (map_list File files)) held
  files_taken files =
      ap (λ found. taken found held) (find_map (has_name text) file_key files)
      ∙ of_file (find (λ file. same_name text (file_name file)) files)
      ∙ ap (λ found. takes_entry format found held) (sym (find_map is_entry File files))

  others_taken : (others : List OtherFile)
      → taken (find (has_name text) (map_list other_key others)) held ≡ takes_entry format (find is_entry (map_list Other others)) held
  others_taken others =
      ap (λ found. taken found held) (find_map (has_name text) other_key others)
      ∙ of_other (find (λ file. same_name text (other_name file)) others)
      ∙ ap (λ found. takes_entry format found held) (sym (find_map is_entry Other others))

  either_taken : (file other : Option Key) (name also : Option EntryName) → is_some file ≡ is_some name
      → taken file held ≡ takes_entry format name held → taken other held ≡ takes_entry format also held
      → taken (option_or file other) held ≡ takes_entry format (option_or name also) held
  either_taken None other None also some first later = later
  either_taken None other (Some name) also some first later = absurd (true≢false (sym some))
  either_taken (Some key) other None also some first later = absurd (true≢false some)
  either_taken (Some key) other (Some name) also some first later = first

  both_found : (files : List LimitFile)
      → is_some (find (has_name text) (map_list file_key files)) ≡ is_some (find is_entry (map_list File files))
  both_found files =
      ap is_some (find_map (has_name text) file_key files)
      ∙ is_some-mapped file_key (find (λ file. same_name text (file_name file)) files)
      ∙ sym (is_some-mapped File (find (λ file. same_name text (file_name file)) files)) ∙ ap is_some (sym (find_map is_entry File files))

  named_taken : (files : List LimitFile) (others : List OtherFile)
      → taken (find (has_name text) (map_list file_key files ++ map_list other_key others)) held
      ≡ takes_entry format (find is_entry (map_list File files ++ map_list Other others)) held
  named_taken files others =
      ap (λ found. taken found held) (find-append (has_name text) (map_list file_key files) (map_list other_key others))
      ∙ either_taken _ _ _ _ (both_found files) (files_taken files) (others_taken others)
      ∙ ap (λ found. takes_entry format found held) (sym (find-append is_entry (map_list File files) (map_list Other others)))

  module _ (others : List OtherFile) where
    abbrev keys_with : List Key
    keys_with =
        may_have texts.cgroup_procs (is_table (owner_keys format)) ∷ may_have texts.cgroup_subtree_control (is_table (owner_keys format))
        ∷ (map_list file_key all_files ++ map_list other_key others)

    abbrev found_key : Option Key
    found_key = find (has_name text) (map_list file_key all_files ++ map_list other_key others)

    abbrev found_name : Option EntryName
    found_name = find is_entry (map_list File all_files ++ map_list Other others)

    owned_taken : (p s : Bool)
        → taken (cond p (Some (may_have texts.cgroup_procs (is_table (owner_keys format))))
        (cond s (Some (may_have texts.cgroup_subtree_control (is_table (owner_keys format)))) found_key)) held
        ≡ takes_entry format (cond p (Some Procs) (cond s (Some SubtreeControl) found_name)) held
    owned_taken true s = refl
    owned_taken false true = refl
    owned_taken false false = named_taken all_files others

    -- a value at the name of an entry, where none has the name of the directory
    file_taken : find (has_name (codes "dir")) (map_list other_key others) ≡ None
        → takes keys_with text held
        ≡ takes_entry format (find is_entry (Dir ∷ Procs ∷ SubtreeControl ∷ (map_list File all_files ++ map_list Other others))) held
    file_taken none =
        elim (same_name text (codes "dir")) as (λ b. same_name text (codes "dir") ≡ b
        → takes keys_with text held
        ≡ takes_entry format (cond b (Some Dir)
        (cond (same_name text texts.cgroup_procs) (Some Procs)
        (cond (same_name text texts.cgroup_subtree_control) (Some SubtreeControl) found_name))) held) [
          | true ↦ λ same.
              ap (λ name. takes keys_with name held) (name_is text (codes "dir") same) ∙ ap (λ found. taken found held) none
          | false ↦ λ other. owned_taken (same_name text texts.cgroup_procs) (same_name text texts.cgroup_subtree_control)
        ] refl

-- a value at the name of an entry of the format
known_taken : (format : Format) (text : List ℕ) (held : Data)
    → takes (file_keys_of format) text held ≡ takes_entry format (entry_known_as (vocabulary format) text) held
known_taken One text held = file_taken One text held [] refl
known_taken Two text held = file_taken Two text held [] refl
known_taken Four text held = file_taken Four text held all_others refl

-- a value at the name of this entry
pub entry_taken : (format : Format) (text : List ℕ) (held : Data) (name : EntryName) (found : Option EntryName) (taken : Bool)
    → found ≡ entry_known_as (vocabulary format) text → found ≡ Some name
    → taken ≡ takes_entry format (Some name) held → taken ≡ takes (file_keys_of format) text held
entry_taken format text held name found taken is some told =
    told ∙ sym (known_taken format text held ∙ ap (λ found. takes_entry format found held) (sym is ∙ some))

pub none_taken : (format : Format) (text : List ℕ) (held : Data) (found : Option EntryName)
    → found ≡ entry_known_as (vocabulary format) text → found ≡ None → false ≡ takes (file_keys_of format) text held
none_taken format text held found is none =
    sym (known_taken format text held ∙ ap (λ found. takes_entry format found held) (sym is ∙ none))

-- for a table of files, whose keys name entries
pub ruleset of_entries = (owner_allowed, limit_allowed, text_allowed, entry_taken, none_taken)
