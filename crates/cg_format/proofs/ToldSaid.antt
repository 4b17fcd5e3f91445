-- What a row says of the limit files beyond `LimitFile`.
use Rattle.std.proofs.Common.{◌≡◌, ℕ, ◌≤◌, Bool, true, false, not, cond, ◌||◌, List, [], ◌∷◌, ◌++◌, map, codes, Option, Some, None, is_some, option_and_then, unwrap_or, refl, sym, ap, ◌∙◌, true≢false}
use Rattle.std.specs.Prelude.{filter_map}
use Rattle.std.specs.Ordering.{match_ordering, is_eq}
use Rattle.std.specs.declared.cmp.Ordering.{Ordering}
use Rattle.std.specs.declared.cmp.Ordering.TheVariants.{Less, Equal, Greater}
use Rattle.std.specs.Cmp.Lexicographic.{slice_cmp, texts_ties, bytes_decides}
use Rattle.std.specs.Ordering.{nat_cmp}
use Rattle.std.specs.List.{list_all, list_any}
use Rattle.std.proofs.lemmas.Bool.{and_from, and_parts}
use Rattle.std.proofs.lemmas.List.Folds.{list_all-append, list_all-map}
use Rattle.toml.specs.Data.{Data, table, Members, no_members, member, get_member, as_table}
use Rattle.cg_cgroup.specs.Paths.{same_name}
use Rattle.cg_cgroup.specs.Files.{format_2_entries, all_others, known_others, known_entries, other_name}
use Rattle.cg_cgroup.specs.Told.{told_in, told_by}
use Rattle.cg_cgroup.specs.declared.user.Entry.{Entry}
use Rattle.cg_cgroup.specs.declared.files.Vocabulary.{Vocabulary}
use Rattle.cg_cgroup.specs.declared.files.Vocabulary.TheVariants.{Format2, Format4}
use Rattle.cg_cgroup.specs.declared.files.EntryName.{EntryName}
use Rattle.cg_cgroup.specs.declared.files.EntryName.TheVariants.{Other}
use Rattle.cg_cgroup.specs.declared.other_file.OtherFile.{OtherFile}
use Rattle.cg_cgroup.specs.declared.other_file.OtherFile.TheVariants.{CpuMax}
use Rattle.cg_cgroup.specs.declared.told.FileText.{FileText}
use Rattle.cg_cgroup.specs.declared.told.ToldFile.{ToldFile}
use Rattle.cg_cgroup.specs.declared.told.ToldFiles.{ToldFiles}
use Rattle.cg_cgroup.proofs.Options.{same_some}
use Rattle.cg_cgroup.proofs.AllOthers.{each_other}
use Rattle.cg_cgroup.proofs.ToldLaws.{told_in-by}
use Rattle.cg_format.specs.Form.{Key, vocabulary, are_among, fits_at, is_table, is_text, are_texts, must_have, may_have, owner_keys, file_keys_of, row_keys}
use Rattle.cg_format.specs.Said.{table_at, integer_at, id_read, mode_read, owner_said, table_of, entry_said, text_said, file_said, told_said, tells, told_row, is_named}
use Rattle.cg_format.specs.declared.format.Format.{Format}
use Rattle.cg_format.specs.declared.format.Format.TheVariants.{One, Two, Four}
use Rattle.cg_format.proofs.SaidRanges.{mode_small, entry_as}

-- ---- what the table of a file says

-- whether a file that a row names is told of
abbrev pub named_told : Format → Members → OtherFile → Bool
named_told format row file = not (is_named (Other file) row) || is_some (told_said format row file)

abbrev joined : Option Entry → Option (Option FileText) → Option ToldFile
joined entry text = option_and_then (λ e. option_and_then (λ v. Some (record { entry = e; value = v })) text) entry

both_some : (entry : Option Entry) (text : Option (Option FileText)) → is_some entry ≡ true → is_some text ≡ true
    → is_some (joined entry text) ≡ true
both_some None text owns says = absurd (true≢false (sym owns))
both_some (Some e) None owns says = absurd (true≢false (sym says))
both_some (Some e) (Some v) owns says = refl

parts_some : (entry : Option Entry) (text : Option (Option FileText)) → is_some (joined entry text) ≡ true
    → (is_some entry ≡ true) × (is_some text ≡ true)
parts_some None text is = absurd (true≢false (sym is))
parts_some (Some e) None is = absurd (true≢false (sym is))
parts_some (Some e) (Some v) is = (refl, refl)

-- a table that says nothing says an owner
pub nobody : (format : Format) → is_some (owner_said format 420 no_members) ≡ true
nobody One = refl
nobody Two = refl
nobody Four = refl

told_found : (format : Format) (found : Option Members) → is_some (owner_said format 420 (unwrap_or found no_members)) ≡ true
    → is_some (text_said (unwrap_or found no_members)) ≡ true
    → (not (is_some found) || is_some (option_and_then (file_said format) found)) ≡ true
told_found format None owns says = refl
told_found format (Some inside) owns says = both_some (owner_said format 420 inside) (text_said inside) owns says

found_told : (format : Format) (found : Option Members)
    → (is_some found ≡ true → is_some (option_and_then (file_said format) found) ≡ true)
    → (is_some (owner_said format 420 (unwrap_or found no_members)) ≡ true)
    × (is_some (text_said (unwrap_or found no_members)) ≡ true)
found_told format None told = (nobody format, refl)
found_told format (Some inside) told = parts_some (owner_said format 420 inside) (text_said inside) (told refl)

-- the owner and the value of each file that is named are said where it is told of, and there alone
pub named_told-so : (format : Format) (row : Members) (file : OtherFile) → is_some (entry_said format row (Other file)) ≡ true
    → is_some (text_said (unwrap_or (table_of (Other file) row) no_members)) ≡ true → named_told format row file ≡ true
named_told-so format row file owns says = told_found format (table_of (Other file) row) owns says

pub named_told-parts : (format : Format) (row : Members) (file : OtherFile)
    → (is_named (Other file) row ≡ true → is_some (told_said format row file) ≡ true)
    → (is_some (entry_said format row (Other file)) ≡ true)
    × (is_some (text_said (unwrap_or (table_of (Other file) row) no_members)) ≡ true)
named_told-parts format row file told = found_told format (table_of (Other file) row) told

mode_of : (format : Format) (found : Option Members) (told : ToldFile) → option_and_then (file_said format) found ≡ Some told
    → told.entry.mode ≤ 511
mode_of format None told is = absurd (true≢false (sym (ap is_some is)))
mode_of format (Some inside) told is =
    mode_small format 420 (integer_at (codes "mode") inside) told.entry.mode
    (entry_as (id_read (integer_at (codes "uid") inside)) (id_read (integer_at (codes "gid") inside))
    (mode_read format 420 (integer_at (codes "mode") inside)) told.entry
    (entry_in_told (owner_said format 420 inside) (text_said inside) told is))
  where
    entry_in_told : (entry : Option Entry) (text : Option (Option FileText)) (told : ToldFile) → joined entry text ≡ Some told
        → entry ≡ Some told.entry
    entry_in_told None text told is = absurd (true≢false (sym (ap is_some is)))
    entry_in_told (Some e) None told is = absurd (true≢false (sym (ap is_some is)))
    entry_in_told (Some e) (Some v) told is = ap (λ (t : ToldFile). Some t.entry) (same_some _ told is)

pub told_small : (format : Format) (row : Members) (file : OtherFile) (told : ToldFile) → told_said format row file ≡ Some told
    → told.entry.mode ≤ 511
told_small format row file told is = mode_of format (table_of (Other file) row) told is

-- ---- what a row tells of them all

-- what a row that tells of some tells of each
pub record IsTold (format : Format) (row : Members) (files : ToldFiles) : Type 0 where
  pub tells : tells format row ≡ true
  pub each : (file : OtherFile) → told_in files file ≡ told_said format row file

pub row_told : (format : Format) (row : Members) (files : ToldFiles) → told_row format row ≡ Some files → IsTold format row files
row_told format row files is =
    elim (tells format row) as (λ b. tells format row ≡ b → cond b (Some (told_by (told_said format row))) None ≡ Some files
    → IsTold format row files) [
      | true ↦ λ so some. record {
        tells = so;
        each = λ file.
            ap (λ files. told_in files file) (sym (same_some (told_by (told_said format row)) files some))
            ∙ told_in-by (told_said format row) file;
      }
      | false ↦ λ _ none. absurd (true≢false (sym (ap is_some none)))
    ] refl is

-- ---- lists of files and entries

pub all_both : {A : Type 0} (p q r : A → Bool) → ((x : A) → p x ≡ true → q x ≡ true → r x ≡ true) → (xs : List A)
    → list_all p xs ≡ true → list_all q xs ≡ true → list_all r xs ≡ true
all_both p q r both [] ps qs = refl
all_both p q r both (x ∷ xs) ps qs =
    let here = and_parts (p x) (list_all p xs) ps in
    let also = and_parts (q x) (list_all q xs) qs in
    and_from (r x) (list_all r xs) (both x here.0 also.0) (all_both p q r both xs here.1 also.1)

two_lists : (p : EntryName → Bool) (some : List EntryName) (files : List OtherFile) → list_all p (some ++ map Other files) ≡ true
    → (list_all p some ≡ true) × (list_all (λ file. p (Other file)) files ≡ true)
two_lists p some files all =
    let parts = and_parts (list_all p some) (list_all p (map Other files)) (sym (list_all-append p some (map Other files)) ∙ all) in
    (parts.0, sym (list_all-map p Other files) ∙ parts.1)

-- what all entries of a vocabulary pass, those of format 2 pass, and its limit files beyond `LimitFile`
pub known_parts : (p : EntryName → Bool) (words : Vocabulary) → list_all p (known_entries words) ≡ true
    → (list_all p format_2_entries ≡ true) × (list_all (λ file. p (Other file)) (known_others words) ≡ true)
known_parts p Format2 all = (all, refl)
known_parts p Format4 all = two_lists p format_2_entries all_others all

-- ---- names that a format doesn't have

tied : (o : Ordering) (b : Bool) (found : Option Data) (held : Data) → b ≡ is_eq o → match_ordering o found (Some held) found
    ≡ cond b (Some held) found
tied Less b found held is = ap (λ b. cond b (Some held) found) (sym is)
tied Equal b found held is = ap (λ b. cond b (Some held) found) (sym is)
tied Greater b found held is = ap (λ b. cond b (Some held) found) (sym is)

-- what stands in a table at a key stands at one of the keys that the table may have
key_among : (keys : List Key) (name : List ℕ) (members : Members) (foreign : list_any (λ key. same_name name key.name) keys ≡ false)
    → are_among keys members ≡ true → get_member name members ≡ None
key_among keys name no_members foreign among = refl
key_among keys name (member other held rest) foreign among =
    let parts = and_parts (list_any (λ key. same_name other key.name) keys) (are_among keys rest) among in
    tied (slice_cmp nat_cmp name other) (same_name name other) (get_member name rest) held (texts_ties name other)
    ∙ elim (same_name name other) as (λ b. same_name name other ≡ b → cond b (Some held) (get_member name rest) ≡ None) [
      | true ↦ λ same.
          let one : name ≡ other = (bytes_decides name other).0 same in
          absurd (true≢false (sym parts.0 ∙ ap (λ text. list_any (λ key. same_name text key.name) keys) (sym one) ∙ foreign))
      | false ↦ λ _. key_among keys name rest foreign parts.1
    ] refl

-- a table that is one with these keys has no table at another
none_in : (keys : List Key) (name : List ℕ) (held : Option Data) → list_any (λ key. same_name name key.name) keys ≡ false
    → elim held [ None ↦ true | Some held ↦ is_table keys held ] ≡ true
    → option_and_then (table_at name) (option_and_then as_table held) ≡ None
none_in keys name None foreign fits = refl
none_in keys name (Some (table members)) foreign fits =
    ap (option_and_then as_table) (key_among keys name members foreign (and_parts (are_among keys members) _ fits).0)
none_in keys name (Some held) foreign fits = absurd (true≢false (sym fits))

-- the files of formats 1 and 2 have no name beyond those of `LimitFile`
foreign_in_1 : (file : OtherFile) → list_any (λ key. same_name (other_name file) key.name) (file_keys_of One) ≡ false
foreign_in_1 CpuMax = refl
foreign_in_1 file = refl

foreign_in_2 : (file : OtherFile) → list_any (λ key. same_name (other_name file) key.name) (file_keys_of Two) ≡ false
foreign_in_2 CpuMax = refl
foreign_in_2 file = refl

fourth : {A : Type 0} (p : A → Bool) (a b c d : A) → list_all p (a ∷ b ∷ c ∷ d ∷ []) ≡ true → p d ≡ true
fourth p a b c d all =
    let three = (and_parts (p a) (list_all p (b ∷ c ∷ d ∷ [])) all).1 in
    let two = (and_parts (p b) (list_all p (c ∷ d ∷ [])) three).1 in
    let one = (and_parts (p c) (list_all p (d ∷ [])) two).1 in
    (and_parts (p d) true one).0

files_fit : (format : Format) (row : Members) → is_table (row_keys format) (table row) ≡ true
    → fits_at row (may_have (codes "files") (is_table (file_keys_of format))) ≡ true
files_fit format row fits =
    fourth (fits_at row) (must_have (codes "path") is_text) (may_have (codes "enabled") are_texts)
    (may_have (codes "dir") (is_table (owner_keys format))) (may_have (codes "files") (is_table (file_keys_of format)))
    (and_parts (are_among (row_keys format) row) (list_all (fits_at row) (row_keys format)) fits).1

-- In formats 1 and 2 no row names one of the files beyond `LimitFile`; in format 4 each that it names is told of.
pub known_told : (format : Format) (row : Members) → is_table (row_keys format) (table row) ≡ true
    → list_all (named_told format row) (known_others (vocabulary format)) ≡ true → (file : OtherFile)
    → is_named (Other file) row ≡ true → is_some (told_said format row file) ≡ true
known_told One row fits told file named =
    absurd (true≢false (sym named
    ∙ ap is_some
    (none_in (file_keys_of One) (other_name file) (get_member (codes "files") row) (foreign_in_1 file) (files_fit One row fits))))
known_told Two row fits told file named =
    absurd (true≢false (sym named
    ∙ ap is_some
    (none_in (file_keys_of Two) (other_name file) (get_member (codes "files") row) (foreign_in_2 file) (files_fit Two row fits))))
known_told Four row fits told file named =
    so_named (is_named (Other file) row) (is_some (told_said Four row file)) (each_other (named_told Four row) told file) named
  where
    so_named : (a b : Bool) → (not a || b) ≡ true → a ≡ true → b ≡ true
    so_named true b so named = so
    so_named false b so named = absurd (true≢false (sym named))

-- ---- tables among the elements of an array

tables_fit : (keys : List Key) (elements : List Data) → list_all (is_table keys) elements ≡ true
    → list_all (λ row. is_table keys (table row)) (filter_map as_table elements) ≡ true
tables_fit keys [] fit = refl
tables_fit keys (table row ∷ rest) fit =
    let parts = and_parts (is_table keys (table row)) (list_all (is_table keys) rest) fit in
    and_from (is_table keys (table row)) _ parts.0 (tables_fit keys rest parts.1)
tables_fit keys (held ∷ rest) fit = absurd (true≢false (sym fit))

pub table_fits : (keys : List Key) (elements : List Data) → list_all (is_table keys) elements ≡ true
    → (before : List Members) (row : Members) (after : List Members) → before ++ row ∷ after ≡ filter_map as_table elements
    → is_table keys (table row) ≡ true
table_fits keys elements fit before row after is =
    let all = ap (list_all (λ row. is_table keys (table row))) is ∙ tables_fit keys elements fit in
    let later = (and_parts (list_all (λ row. is_table keys (table row)) before) _
    (sym (list_all-append (λ row. is_table keys (table row)) before (row ∷ after)) ∙ all)).1 in
    (and_parts (is_table keys (table row)) _ later).0
