-- What a row in form says of an entry is read as it is said.
use Rattle.std.proofs.Common.{◌≡◌, ℕ, Bool, true, false, not, cond, ◌||◌, List, [], ◌∷◌, ◌++◌, map, codes, Option, Some, None, is_some, option_and_then, unwrap_or, refl, sym, ap, ◌∙◌, true≢false}
use Rattle.std.specs.Prelude.{◌&&◌, nat_le, filter_map}
use Rattle.std.specs.List.{list_all, list_any, join_with_byte}
use Rattle.std.specs.Option.{option_map}
use Rattle.std.specs.Cmp.{first_so}
use Rattle.std.proofs.lemmas.Bool.{and_parts}
use Rattle.std.proofs.lemmas.List.Folds.{list_all-append, list_all-map}
use Rattle.std.proofs.lemmas.Option.{cond_some}
use Rattle.toml.specs.Data.{Data, string, integer, float, boolean, datetime, array, table, Members, no_members, get_member, as_str, as_table}
use Rattle.cg_cgroup.specs.Paths.{same_name}
use Rattle.cg_cgroup.specs.Numbers.{is_mode}
use Rattle.cg_cgroup.specs.Users.{has_bit}
use Rattle.cg_cgroup.specs.Files.{all_files, all_others, file_name, other_name, known_others, default_value, entry_text}
use Rattle.cg_cgroup.specs.Texts as texts
use Rattle.cg_cgroup.specs.declared.user.Entry.{Entry}
use Rattle.cg_cgroup.specs.declared.files.Limit.{Limit}
use Rattle.cg_cgroup.specs.declared.files.LimitFile.{LimitFile}
use Rattle.cg_cgroup.specs.declared.files.EntryName.{EntryName}
use Rattle.cg_cgroup.specs.declared.files.EntryName.TheVariants.{Dir, Procs, SubtreeControl, File, Other}
use Rattle.cg_cgroup.specs.declared.other_file.OtherFile.{OtherFile}
use Rattle.cg_cgroup.specs.declared.other_file.OtherFile.TheVariants.{CpuMax}
use Rattle.cg_cgroup.specs.declared.told.FileText.{FileText}
use Rattle.cg_cgroup.proofs.Options.{none_value, same_some}
use Rattle.cg_cgroup.proofs.AllFiles.{each_passes}
use Rattle.cg_cgroup.proofs.AllOthers.{each_other}
use Rattle.cg_format.specs.Form.{Key, vocabulary, has_groups, is_text, is_integer, are_texts, must_have, may_have, fits_at, are_among, is_table, elements, owner_keys, limit_keys, text_keys, file_keys_of, row_keys}
use Rattle.cg_format.specs.Said.{number_or, passing, id_read, mode_read, integer_at, table_at, owner_said, mode_missing, accepted, limit_of, limit_said, lines_text, is_text_line, text_of, text_said, table_of, is_named, tells}
use Rattle.cg_format.specs.declared.format.Format.{Format}
use Rattle.cg_format.specs.declared.format.Format.TheVariants.{One, Two, Four}
use Rattle.cg_format.proofs.SaidRanges.{entry_as}
use Rattle.machine.specs.Machines.{Value, Unknown, Text, Inode}
use Rattle.machine_view.specs.Views.{value_as}
use Rattle.machine_text.specs.Telling.{at_key, number_up_to, owner_as, usual_value, value_read, around, inode_said}
use Rattle.machine_text.proofs.Keys.{number_at, members_at, inside_fits, texts_as, absent_at}

-- ---- whose it is

-- numbers at the keys of an owner
record OwnerFits (members : Members) : Type 0 where
  uid : fits_at members (may_have (codes "uid") is_integer) ≡ true
  gid : fits_at members (may_have (codes "gid") is_integer) ≡ true
  mode : fits_at members (may_have (codes "mode") is_integer) ≡ true

-- an owner of this chain is one of that, where only the modes differ, and the second's is its mode
owners_as : (uid gid mode stricter : Option ℕ) (entry : Entry)
    → option_and_then (λ u. option_and_then (λ g. option_and_then (λ m. Some (record { uid = u; gid = g; mode = m })) stricter) gid) uid
    ≡ Some entry
    → (stricter ≡ Some entry.mode → mode ≡ Some entry.mode)
    → option_and_then (λ u. option_and_then (λ g. option_and_then (λ m. Some (record { uid = u; gid = g; mode = m })) mode) gid) uid
    ≡ Some entry
owners_as uid gid mode stricter entry is so =
    let own = entry_as uid gid stricter entry is in
    ap (λ (found : Option ℕ).
    option_and_then (λ (u : ℕ).
    option_and_then (λ (g : ℕ). option_and_then (λ (m : ℕ). Some (record { uid = u; gid = g; mode = m })) found) gid) uid)
    (so own ∙ sym own) ∙ is

mode_fits : (format : Format) (written : Option ℕ) (mode : ℕ)
    → passing (λ number. is_mode number && (has_groups format || not (has_bit number 16))) written ≡ Some mode
    → passing (λ number. nat_le number 511) written ≡ Some mode
mode_fits format None mode is = absurd (true≢false (sym (ap is_some is)))
mode_fits format (Some number) mode is =
    let parts = cond_some (is_mode number && (has_groups format || not (has_bit number 16))) number mode is in
    ap (λ b. cond b (Some number) None) (first_so (is_mode number) (has_groups format || not (has_bit number 16)) parts.0)
    ∙ ap Some parts.1

-- an owner that is said in numbers is read so
owner_read : (format : Format) (missing : ℕ) (members : Members) (entry : Entry) → OwnerFits members → nat_le missing 511 ≡ true
    → owner_said format missing members ≡ Some entry → owner_as missing members ≡ Some entry
owner_read format missing members entry fits within said =
    let uid : at_key (Some 0) (number_up_to 4294967295) (codes "uid") members ≡ id_read (integer_at (codes "uid") members) =
    number_at 0 4294967295 (codes "uid") members refl fits.uid in
    let gid : at_key (Some 0) (number_up_to 4294967295) (codes "gid") members ≡ id_read (integer_at (codes "gid") members) =
    number_at 0 4294967295 (codes "gid") members refl fits.gid in
    let mode = number_at missing 511 (codes "mode") members within fits.mode in
    ap (λ (u : Option ℕ). option_and_then (λ (uid : ℕ). option_and_then (λ (gid : ℕ). option_and_then (λ (mode : ℕ).
    Some (record { uid = uid; gid = gid; mode = mode })) (at_key (Some missing) (number_up_to 511) (codes "mode") members))
    (at_key (Some 0) (number_up_to 4294967295) (codes "gid") members)) u) uid
    ∙ ap (λ (g : Option ℕ). option_and_then (λ (uid : ℕ). option_and_then (λ (gid : ℕ). option_and_then (λ (mode : ℕ).
    Some (record { uid = uid; gid = gid; mode = mode })) (at_key (Some missing) (number_up_to 511) (codes "mode") members))
    g) (id_read (integer_at (codes "uid") members))) gid
    ∙ owners_as (id_read (integer_at (codes "uid") members)) (id_read (integer_at (codes "gid") members))
    (at_key (Some missing) (number_up_to 511) (codes "mode") members) (mode_read format missing (integer_at (codes "mode") members)) entry
    said (λ own. mode ∙ mode_fits format (number_or missing (integer_at (codes "mode") members)) entry.mode own)

-- ---- tables of entries

parts_of : (keys : List Key) (members : Members) → is_table keys (table members) ≡ true
    → (are_among keys members ≡ true) × (list_all (fits_at members) keys ≡ true)
parts_of keys members fits = and_parts (are_among keys members) (list_all (fits_at members) keys) fits

no_group : (keys : List Key) (members : Members) → list_any (λ key. same_name (codes "gid") key.name) keys ≡ false
    → are_among keys members ≡ true → fits_at members (may_have (codes "gid") is_integer) ≡ true
no_group keys members foreign among =
    ap (λ (found : Option Data). elim found [ None ↦ true | Some held ↦ is_integer held ])
    (absent_at keys (codes "gid") members foreign among)

two : (a b : Bool) → (a && (b && true)) ≡ true → (a ≡ true) × (b ≡ true)
two a b is = let here = and_parts a (b && true) is in (here.0, (and_parts b true here.1).0)

three : (a b c : Bool) → (a && (b && (c && true))) ≡ true → (a ≡ true) × (b ≡ true) × (c ≡ true)
three a b c is =
    let here = and_parts a (b && (c && true)) is in
    let later = two b c here.1 in
    (here.0, later.0, later.1)

owner_fits : (format : Format) (members : Members) → is_table (owner_keys format) (table members) ≡ true → OwnerFits members
owner_fits One members fits =
    let parts = parts_of (owner_keys One) members fits in
    let each = two _ _ parts.1 in
    record { uid = each.0; gid = no_group (owner_keys One) members refl parts.0; mode = each.1 }
owner_fits Two members fits =
    let each = three _ _ _ (parts_of (owner_keys Two) members fits).1 in record { uid = each.0; gid = each.1; mode = each.2 }
owner_fits Four members fits =
    let each = three _ _ _ (parts_of (owner_keys Four) members fits).1 in record { uid = each.0; gid = each.1; mode = each.2 }

-- of a limit file a table has a value beside
valued_fits : (format : Format) (takes : Data → Bool) (members : Members)
    → is_table (may_have (codes "value") takes ∷ owner_keys format) (table members) ≡ true
    → (fits_at members (may_have (codes "value") takes) ≡ true) × OwnerFits members
valued_fits One takes members fits =
    let keys = may_have (codes "value") takes ∷ owner_keys One in
    let parts = parts_of keys members fits in
    let each = three _ _ _ parts.1 in
    (each.0, record { uid = each.1; gid = no_group keys members refl parts.0; mode = each.2 })
valued_fits Two takes members fits =
    let here = and_parts _ _ (parts_of (may_have (codes "value") takes ∷ owner_keys Two) members fits).1 in
    let each = three _ _ _ here.1 in
    (here.0, record { uid = each.0; gid = each.1; mode = each.2 })
valued_fits Four takes members fits =
    let here = and_parts _ _ (parts_of (may_have (codes "value") takes ∷ owner_keys Four) members fits).1 in
    let each = three _ _ _ here.1 in
    (here.0, record { uid = each.0; gid = each.1; mode = each.2 })

-- ---- values

abbrev pub value_at_key : EntryName → Members → Option Value
value_at_key name members = at_key (Some (usual_value name)) (value_read name) (codes "value") members

-- a number or `max` that is said is read
limit_read : (file : LimitFile) (members : Members) (limit : Limit) → limit_said file members ≡ Some limit
    → value_at_key (File file) members ≡ Some (value_as limit)
limit_read file members limit said = by_cases (get_member (codes "value") members) said
  where
    by_cases : (found : Option Data)
        → elim found [ None ↦ Some (default_value file) | Some held ↦ option_and_then (accepted file) (limit_of held) ] ≡ Some limit
        → elim found [ None ↦ Some (value_as (default_value file)) | Some held ↦ value_read (File file) held ] ≡ Some (value_as limit)
    by_cases None is = ap (option_map value_as) is
    by_cases (Some held) is = ap (option_map value_as) is

abbrev pub text_value : Option FileText → Value
text_value text = elim text [ None ↦ Unknown | Some text ↦ Text text ]

abbrev takes_text : Data → Bool
takes_text held = is_integer held || is_text held || are_texts held

joined_as : (lines : List (List ℕ)) (text : FileText) → lines_text lines ≡ Some text → join_with_byte 10 lines ≡ text
joined_as [] text is = absurd (true≢false (sym (ap is_some is)))
joined_as (line ∷ lines) text is =
    (cond_some (list_all is_text_line (line ∷ lines)) (join_with_byte 10 (line ∷ lines)) text is).1

-- and so is a text
text_read : (file : OtherFile) (members : Members) (text : Option FileText) → fits_at members (may_have (codes "value") takes_text) ≡ true
    → text_said members ≡ Some text → value_at_key (Other file) members ≡ Some (text_value text)
text_read file members text fits said = by_cases (get_member (codes "value") members) fits said
  where
    some_text : (found : Option FileText) → option_map Some found ≡ Some text → (one : FileText) × (found ≡ Some one) × (text ≡ Some one)
    some_text None is = absurd (true≢false (sym (ap is_some is)))
    some_text (Some one) is = (one, refl, sym (same_some (Some one) text is))

    by_cases : (found : Option Data) → elim found [ None ↦ true | Some held ↦ takes_text held ] ≡ true
        → elim found [ None ↦ Some None | Some held ↦ option_map Some (text_of held) ] ≡ Some text
        → elim found [ None ↦ Some Unknown | Some held ↦ value_read (Other file) held ] ≡ Some (text_value text)
    by_cases None fit is = ap (option_map text_value) is
    by_cases (Some (integer number)) fit is = ap (option_map text_value) is
    by_cases (Some (string line)) fit is =
        let found = some_text (lines_text (line ∷ [])) is in
        ap (λ t. Some (Text t)) (joined_as (line ∷ []) found.0 found.1) ∙ ap (λ t. Some (text_value t)) (sym found.2)
    by_cases (Some (array items)) fit is =
        let found = some_text (lines_text (filter_map as_str (elements items))) is in
        ap (option_map (λ (texts : List (List ℕ)). Text (join_with_byte 10 texts))) (texts_as items fit)
        ∙ ap (λ t. Some (Text t)) (joined_as (filter_map as_str (elements items)) found.0 found.1)
        ∙ ap (λ t. Some (text_value t)) (sym found.2)
    by_cases (Some (float x)) fit is = absurd (true≢false (sym fit))
    by_cases (Some (boolean b)) fit is = absurd (true≢false (sym fit))
    by_cases (Some (datetime d)) fit is = absurd (true≢false (sym fit))
    by_cases (Some (table inside)) fit is = absurd (true≢false (sym fit))

-- ---- the table of an entry

foreign_in_1 : (file : OtherFile) → list_any (λ key. same_name (other_name file) key.name) (file_keys_of One) ≡ false
foreign_in_1 CpuMax = refl
foreign_in_1 file = refl

foreign_in_2 : (file : OtherFile) → list_any (λ key. same_name (other_name file) key.name) (file_keys_of Two) ≡ false
foreign_in_2 CpuMax = refl
foreign_in_2 file = refl

nothing_in : (format : Format) → is_table (file_keys_of format) (table no_members) ≡ true
nothing_in One = refl
nothing_in Two = refl
nothing_in Four = refl

nothing_owned : (format : Format) → is_table (owner_keys format) (table no_members) ≡ true
nothing_owned One = refl
nothing_owned Two = refl
nothing_owned Four = refl

nothing_valued : (format : Format) (takes : Data → Bool)
    → is_table (may_have (codes "value") takes ∷ owner_keys format) (table no_members) ≡ true
nothing_valued One takes = refl
nothing_valued Two takes = refl
nothing_valued Four takes = refl

abbrev keys_for : Format → EntryName → List Key
keys_for format (File file) = limit_keys format
keys_for format (Other file) = text_keys format
keys_for format name = owner_keys format

nothing_for : (format : Format) (name : EntryName) → is_table (keys_for format name) (table no_members) ≡ true
nothing_for format Dir = nothing_owned format
nothing_for format Procs = nothing_owned format
nothing_for format SubtreeControl = nothing_owned format
nothing_for format (File file) = nothing_valued format (λ held. is_integer held || is_text held)
nothing_for format (Other file) = nothing_valued format takes_text

-- what of a row is in form
pub record RowFits (format : Format) (row : Members) : Type 0 where
  pub path : fits_at row (must_have (codes "path") is_text) ≡ true
  pub enabled : fits_at row (may_have (codes "enabled") are_texts) ≡ true
  pub dir : fits_at row (may_have (codes "dir") (is_table (owner_keys format))) ≡ true
  pub files : fits_at row (may_have (codes "files") (is_table (file_keys_of format))) ≡ true

pub row_fits : (format : Format) (row : Members) → is_table (row_keys format) (table row) ≡ true → RowFits format row
row_fits format row fits =
    let first = and_parts _ _ (parts_of (row_keys format) row fits).1 in
    let each = three _ _ _ first.1 in
    record { path = first.0; enabled = each.0; dir = each.1; files = each.2 }

module _ (format : Format) (row : Members) (fits : RowFits format row) where
  abbrev among : Members
  among = unwrap_or (table_at (codes "files") row) no_members

  among_fits : is_table (file_keys_of format) (table among) ≡ true
  among_fits = inside_fits (file_keys_of format) (codes "files") row fits.files (nothing_in format)

  each_fits : list_all (fits_at among) (file_keys_of format) ≡ true
  each_fits = (parts_of (file_keys_of format) among among_fits).1

abbrev others_after : Format → List Key
others_after format =
    map (λ file. may_have (file_name file) (is_table (limit_keys format))) all_files
    ++ map (λ file. may_have (other_name file) (is_table (text_keys format))) (known_others (vocabulary format))

-- the limit files among the files of a row
limits_fit : (format : Format) (files : Members) → list_all (fits_at files) (others_after format) ≡ true
    → (list_all (λ file. fits_at files (may_have (file_name file) (is_table (limit_keys format)))) all_files ≡ true)
    × (list_all (λ file. fits_at files (may_have (other_name file) (is_table (text_keys format)))) (known_others (vocabulary format))
    ≡ true)
limits_fit format files fits =
    let usual = λ (file : LimitFile). may_have (file_name file) (is_table (limit_keys format)) in
    let further = λ (file : OtherFile). may_have (other_name file) (is_table (text_keys format)) in
    let parts = and_parts _ _ (sym (list_all-append (fits_at files) (map usual all_files)
    (map further (known_others (vocabulary format)))) ∙ fits) in (
      sym (list_all-map (fits_at files) usual all_files) ∙ parts.0,
      sym (list_all-map (fits_at files) further (known_others (vocabulary format))) ∙ parts.1,
    )

foreign_fits : (keys : List Key) (inner : List Key) (name : List ℕ) (files : Members)
    → list_any (λ key. same_name name key.name) keys ≡ false → are_among keys files ≡ true
    → fits_at files (may_have name (is_table inner)) ≡ true
foreign_fits keys inner name files foreign among =
    ap (λ (found : Option Data). elim found [ None ↦ true | Some held ↦ is_table inner held ]) (absent_at keys name files foreign among)

further_fits : (format : Format) (files : Members) → is_table (file_keys_of format) (table files) ≡ true
    → list_all (λ file. fits_at files (may_have (other_name file) (is_table (text_keys format)))) (known_others (vocabulary format)) ≡ true
    → (file : OtherFile) → fits_at files (may_have (other_name file) (is_table (text_keys format))) ≡ true
further_fits One files fits known file =
    foreign_fits (file_keys_of One) (text_keys One) (other_name file) files (foreign_in_1 file) (parts_of (file_keys_of One) files fits).0
further_fits Two files fits known file =
    foreign_fits (file_keys_of Two) (text_keys Two) (other_name file) files (foreign_in_2 file) (parts_of (file_keys_of Two) files fits).0
further_fits Four files fits known file =
    each_other (λ file. fits_at files (may_have (other_name file) (is_table (text_keys Four)))) known file

no_value : (format : Format) (members : Members) → is_table (owner_keys format) (table members) ≡ true
    → get_member (codes "value") members ≡ None
no_value One members fits = absent_at (owner_keys One) (codes "value") members refl (parts_of (owner_keys One) members fits).0
no_value Two members fits = absent_at (owner_keys Two) (codes "value") members refl (parts_of (owner_keys Two) members fits).0
no_value Four members fits = absent_at (owner_keys Four) (codes "value") members refl (parts_of (owner_keys Four) members fits).0

small : (name : EntryName) → nat_le (mode_missing name) 511 ≡ true
small Dir = refl
small Procs = refl
small SubtreeControl = refl
small (File file) = refl
small (Other file) = refl

-- the table of an entry in another
within : (text : List ℕ) (found : Option Members)
    → unwrap_or (table_at text (unwrap_or found no_members)) no_members ≡ unwrap_or (option_and_then (table_at text) found) no_members
within text None = refl
within text (Some inside) = refl

abbrev made : Option Entry → Option Value → Option Inode
made found held =
    option_and_then (λ (entry : Entry). option_and_then (λ (value : Value). Some (record { entry = entry; value = value })) held) found

abbrev pub said_of : EntryName → Members → Members
said_of name row = unwrap_or (table_of name row) no_members

abbrev table_in : EntryName → Members → Option Members
table_in name row = option_and_then (at_key (Some no_members) as_table (entry_text name)) (around name row)

not-true : (b : Bool) → not b ≡ true → b ≡ false
not-true true is = absurd (true≢false (sym is))
not-true false is = refl

none_any : (test : OtherFile → Bool) (files : List OtherFile) → list_any test files ≡ false
    → list_all (λ file. not (test file)) files ≡ true
none_any test [] none = refl
none_any test (file ∷ files) none =
    let rest = none_any test files in
    elim (test file) as (λ b. (b || list_any test files) ≡ false → (not b && list_all (λ file. not (test file)) files) ≡ true) [
      | true ↦ λ is. absurd (true≢false is)
      | false ↦ λ is. rest is
    ] none

-- a table that has no such key has no table there
none_inside : (name : List ℕ) (found : Option Members) → get_member name (unwrap_or found no_members) ≡ None
    → option_and_then (table_at name) found ≡ None
none_inside name None none = refl
none_inside name (Some inside) none = ap (option_and_then as_table) none

none_named : (format : Format) (row : Members) → RowFits format row → tells format row ≡ false → (file : OtherFile)
    → table_of (Other file) row ≡ None
none_named One row fits silent file =
    none_inside (other_name file) (table_at (codes "files") row)
    (absent_at (file_keys_of One) (other_name file) (among One row fits) (foreign_in_1 file)
    (parts_of (file_keys_of One) (among One row fits) (among_fits One row fits)).0)
none_named Two row fits silent file =
    none_inside (other_name file) (table_at (codes "files") row)
    (absent_at (file_keys_of Two) (other_name file) (among Two row fits) (foreign_in_2 file)
    (parts_of (file_keys_of Two) (among Two row fits) (among_fits Two row fits)).0)
none_named Four row fits silent file =
    none_value (table_of (Other file) row)
    (not-true (is_named (Other file) row) (each_other (λ file. not (is_named (Other file) row))
    (none_any (λ file. is_named (Other file) row) all_others silent) file))

module _ (format : Format) (row : Members) (fits : RowFits format row) where
  files_read : at_key (Some no_members) as_table (codes "files") row ≡ Some (among format row fits)
  files_read = members_at (file_keys_of format) (codes "files") row fits.files

  rest_fits : (list_all (λ file. fits_at (among format row fits) (may_have (file_name file)
      (is_table (limit_keys format)))) all_files ≡ true)
      × (list_all (λ file. fits_at (among format row fits) (may_have (other_name file) (is_table (text_keys format))))
      (known_others (vocabulary format)) ≡ true)
  rest_fits =
      let first = and_parts _ _ (each_fits format row fits) in
      limits_fit format (among format row fits) (and_parts _ _ first.1).1

  -- a file's table is found and is in form
  in_files : (text : List ℕ) (keys : List Key) → fits_at (among format row fits) (may_have text (is_table keys)) ≡ true
      → is_table keys (table no_members) ≡ true
      → (option_and_then (at_key (Some no_members) as_table text) (at_key (Some no_members) as_table (codes "files") row)
      ≡ Some (unwrap_or (option_and_then (table_at text) (table_at (codes "files") row)) no_members))
      × (is_table keys (table (unwrap_or (option_and_then (table_at text) (table_at (codes "files") row)) no_members)) ≡ true)
  in_files text keys fit nothing =
      let nested = within text (table_at (codes "files") row) in (
        ap (option_and_then (at_key (Some no_members) as_table text)) files_read
            ∙ members_at keys text (among format row fits) fit ∙ ap Some nested,
        ap (λ inside. is_table keys (table inside)) (sym nested) ∙ inside_fits keys text (among format row fits) fit nothing,
      )

  table_read : (name : EntryName) → (table_in name row ≡ Some (said_of name row))
      × (is_table (keys_for format name) (table (said_of name row)) ≡ true)
  table_read Dir = (
    members_at (owner_keys format) (codes "dir") row fits.dir,
    inside_fits (owner_keys format) (codes "dir") row fits.dir (nothing_owned format),
  )
  table_read Procs =
      in_files texts.cgroup_procs (owner_keys format) (and_parts _ _ (each_fits format row fits)).0 (nothing_owned format)
  table_read SubtreeControl =
      in_files texts.cgroup_subtree_control (owner_keys format)
      (and_parts _ _ (and_parts _ _ (each_fits format row fits)).1).0 (nothing_owned format)
  table_read (File file) =
      in_files (file_name file) (limit_keys format)
      (each_passes (λ file. fits_at (among format row fits) (may_have (file_name file) (is_table (limit_keys format)))) rest_fits.0 file)
      (nothing_for format (File file))
  table_read (Other file) =
      in_files (other_name file) (text_keys format)
      (further_fits format (among format row fits) (among_fits format row fits) rest_fits.1 file) (nothing_for format (Other file))

  -- a row that tells of no further file names none
  pub not_named : (file : OtherFile) → tells format row ≡ false → table_of (Other file) row ≡ None
  not_named file silent = none_named format row fits silent file

  owner_at : (name : EntryName) → OwnerFits (said_of name row)
  owner_at Dir = owner_fits format (said_of Dir row) (table_read Dir).1
  owner_at Procs = owner_fits format (said_of Procs row) (table_read Procs).1
  owner_at SubtreeControl = owner_fits format (said_of SubtreeControl row) (table_read SubtreeControl).1
  owner_at (File file) =
      (valued_fits format (λ held. is_integer held || is_text held) (said_of (File file) row) (table_read (File file)).1).1
  owner_at (Other file) = (valued_fits format takes_text (said_of (Other file) row) (table_read (Other file)).1).1

  -- an entry is read as it is said, and so is its value
  pub entry_read : (name : EntryName) (entry : Entry) (value : Value)
      → owner_said format (mode_missing name) (said_of name row) ≡ Some entry → value_at_key name (said_of name row) ≡ Some value
      → inode_said name row ≡ Some (record { entry = entry; value = value })
  entry_read name entry value owned valued =
      regrouped (around name row)
      ∙ ap (option_and_then (λ (said : Members). made (owner_as (mode_missing name) said) (value_at_key name said))) (table_read name).0
      ∙ ap (λ (found : Option Entry). made found (value_at_key name (said_of name row)))
      (owner_read format (mode_missing name) (said_of name row) entry (owner_at name) (small name) owned)
      ∙ ap (made (Some entry)) valued
    where
      regrouped : (found : Option Members)
          → option_and_then (λ (inside : Members). option_and_then (λ (said : Members).
          made (owner_as (mode_missing name) said) (value_at_key name said))
          (at_key (Some no_members) as_table (entry_text name) inside)) found
          ≡ option_and_then (λ (said : Members). made (owner_as (mode_missing name) said) (value_at_key name said))
          (option_and_then (at_key (Some no_members) as_table (entry_text name)) found)
      regrouped None = refl
      regrouped (Some inside) = refl

  pub limit_at : (file : LimitFile) (limit : Limit) → limit_said file (said_of (File file) row) ≡ Some limit
      → value_at_key (File file) (said_of (File file) row) ≡ Some (value_as limit)
  limit_at file limit said = limit_read file (said_of (File file) row) limit said

  pub text_at_file : (file : OtherFile) (text : Option FileText) → text_said (said_of (Other file) row) ≡ Some text
      → value_at_key (Other file) (said_of (Other file) row) ≡ Some (text_value text)
  text_at_file file text said =
      text_read file (said_of (Other file) row) text
      (valued_fits format takes_text (said_of (Other file) row) (table_read (Other file)).1).0 said

  pub plain_dir : value_at_key Dir (said_of Dir row) ≡ Some Unknown
  plain_dir =
      ap (λ (found : Option Data). elim found as (λ (_ : Option Data). Option Value) [ None ↦ Some Unknown | Some held ↦ None ])
      (no_value format (said_of Dir row) (table_read Dir).1)

  pub plain_procs : value_at_key Procs (said_of Procs row) ≡ Some Unknown
  plain_procs =
      ap (λ (found : Option Data). elim found as (λ (_ : Option Data). Option Value) [ None ↦ Some Unknown | Some held ↦ None ])
      (no_value format (said_of Procs row) (table_read Procs).1)

  pub plain_control : value_at_key SubtreeControl (said_of SubtreeControl row) ≡ Some Unknown
  plain_control =
      ap (λ (found : Option Data). elim found as (λ (_ : Option Data). Option Value) [ None ↦ Some Unknown | Some held ↦ None ])
      (no_value format (said_of SubtreeControl row) (table_read SubtreeControl).1)
