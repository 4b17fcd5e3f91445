-- The tables of a tree's document are in the form of the format that is written.
use Rattle.std.proofs.Common.{◌≡◌, ℕ, Bool, true, not, cond, List, [], ◌∷◌, ◌++◌, map, codes, Option, Some, None, option_and_then, is_eq, nat_cmp, refl, ap, ◌∙◌}
use Rattle.std.specs.Prelude.{◌||◌, ◌==◌, fold}
use Rattle.std.specs.Option.{option_map}
use Rattle.std.specs.Cmp.Lexicographic.{slice_cmp}
use Rattle.std.specs.List.{list_any, list_all, slice_split}
use Rattle.std.proofs.lemmas.Bool.{and_from, and_parts, not-true}
use Rattle.std.proofs.lemmas.List.Folds.{list_all-append, list_all-map}
use Rattle.toml.specs.Data.{Data, table, Members, no_members, get_member}
use Rattle.cg_cgroup.specs.Paths.{Names, same_name}
use Rattle.cg_cgroup.specs.Texts as texts
use Rattle.cg_cgroup.specs.Files.{all_files, file_name, all_others, other_name}
use Rattle.cg_cgroup.specs.Cgroups.{file_of}
use Rattle.cg_cgroup.specs.Told.{told_in}
use Rattle.cg_cgroup.specs.declared.user.Entry.{Entry}
use Rattle.cg_cgroup.specs.declared.files.Limit.TheVariants.{Max, At}
use Rattle.cg_cgroup.specs.declared.files.LimitFile.{LimitFile}
use Rattle.cg_cgroup.specs.declared.files.Vocabulary.{Vocabulary}
use Rattle.cg_cgroup.specs.declared.files.Vocabulary.TheVariants.{Format2, Format4}
use Rattle.cg_cgroup.specs.declared.files.LimitFile.TheVariants.{MaxDescendants}
use Rattle.cg_cgroup.specs.declared.other_file.OtherFile.{OtherFile}
use Rattle.cg_cgroup.specs.declared.other_file.OtherFile.TheVariants.{CpuMax}
use Rattle.cg_cgroup.specs.declared.told.ToldFile.{ToldFile}
use Rattle.cg_cgroup.specs.declared.told.ToldFiles.{ToldFiles}
use Rattle.cg_cgroup.specs.declared.cgroup.LimitEntry.{LimitEntry}
use Rattle.cg_cgroup.specs.declared.cgroup.Cgroup.{Cgroup}
use Rattle.cg_cgroup.specs.declared.process.Process.{Process}
use Rattle.cg_cgroup.proofs.AllFiles.{each_passes, all_pass}
use Rattle.cg_cgroup.proofs.AllOthers.{each_other, others_pass}
use Rattle.cg_model.specs.States.{State}
use Rattle.cg_format.specs.Form.{Key, vocabulary, fits_at, may_have, are_among, is_table, is_text, is_integer, are_texts, document_keys, owner_keys, limit_keys, text_keys, file_keys_of, row_keys, live_keys}
use Rattle.cg_format.specs.declared.format.Format.{Format}
use Rattle.cg_format.specs.declared.format.Format.TheVariants.{Two, Four}
use Rattle.cg_print.specs.Carried.{written_in}
use Rattle.cg_print.specs.Keys.{with_key, with_optional}
use Rattle.cg_print.specs.Documents.{names_in, texts_array, entry_table, value_written, limit_table, table_of_file, with_file, limits_table, lines_written, text_written, told_table, table_of_told, with_told, told_of, files_table, cgroup_table, process_table, tree_document}
use Rattle.cg_print.proofs.KeyLaws.{AsksEach, only-with_key, only-with_optional, or_so, or_none, look, get-with_key, get-with_optional}

-- ---- texts

texts_in_form : (names : List (List ℕ)) → are_texts (texts_array names) ≡ true
texts_in_form [] = refl
texts_in_form (name ∷ names) = texts_in_form names

-- a line, lines, or an integer
abbrev is_value : Data → Bool
is_value held = is_integer held || is_text held || are_texts held

lines_in_form : (lines : List (List ℕ)) → is_value (lines_written lines) ≡ true
lines_in_form [] = refl
lines_in_form (line ∷ []) = refl
lines_in_form (line ∷ next ∷ lines) = texts_in_form (line ∷ next ∷ lines)

-- ---- entries and limit files; formats 2 and 4 have the same keys there

entry_in_form : (entry : Entry) → is_table (owner_keys Two) (table (entry_table entry)) ≡ true
unfolding entry_table with_key
entry_in_form entry = refl

limit_in_form : (held : LimitEntry) → is_table (limit_keys Two) (table (limit_table held)) ≡ true
unfolding limit_table entry_table with_key
limit_in_form held =
    elim held.value
    as (λ v. is_table (limit_keys Two) (table (with_key (codes "value") (value_written v) (entry_table held.entry))) ≡ true) [
      | Max ↦ refl
      | At n ↦ refl
    ]

value_in_form : (entry : Entry) (held : Data) → is_value held ≡ true
    → is_table (text_keys Two) (table (with_key (codes "value") held (entry_table entry))) ≡ true
unfolding entry_table with_key
value_in_form entry held is = and_from (is_value held) true is refl

told_in_form : (told : ToldFile) → is_table (text_keys Two) (table (told_table told)) ≡ true
unfolding told_table entry_table with_key with_optional
told_in_form told =
    elim told.value as (λ v. is_table (text_keys Two)
    (table (with_optional (codes "value") (option_map text_written v) (entry_table told.entry))) ≡ true) [
      | None ↦ refl
      | Some text ↦ value_in_form told.entry (text_written text) (lines_in_form (slice_split (λ b. b == 10) text))
    ]

abbrev fits_entry : Option Data → Bool
fits_entry found = elim found [ None ↦ true | Some held ↦ is_table (owner_keys Two) held ]

abbrev fits_limit : Option Data → Bool
fits_limit found = elim found [ None ↦ true | Some held ↦ is_table (limit_keys Two) held ]

abbrev fits_told : Option Data → Bool
fits_told found = elim found [ None ↦ true | Some held ↦ is_table (text_keys Two) held ]

file_in_form : (found : Option LimitEntry) → fits_limit (table_of_file found) ≡ true
file_in_form None = refl
file_in_form (Some held) = limit_in_form held

other_in_form : (found : Option ToldFile) → fits_told (table_of_told found) ≡ true
other_in_form None = refl
other_in_form (Some told) = told_in_form told

-- ---- what stands at a key of the files

module _ (row : Cgroup) where
  -- what stands at a key, once a limit file is written
  abbrev looked : List ℕ → Option Data → LimitFile → Option Data
  looked q rest file = look q (file_name file) (table_of_file (file_of row file)) rest

  with_files : (q : List ℕ) (files : List LimitFile) (keys : Members)
      → get_member q (fold (with_file row) keys files) ≡ fold (looked q) (get_member q keys) files
  with_files q [] keys = refl
  with_files q (file ∷ files) keys =
      with_files q files (with_file row keys file)
      ∙ ap (λ rest. fold (looked q) rest files) (get-with_optional q (file_name file) (table_of_file (file_of row file)) keys)

  abbrev with_control : List ℕ → Option Data → Option Data
  with_control q rest = look q texts.cgroup_subtree_control (Some (table (entry_table row.subtree_control))) rest

  -- what stands at a key of the control files and the ten limit files
  at_key : (q : List ℕ) → get_member q (limits_table row)
      ≡ fold (looked q) (with_control q (look q texts.cgroup_procs (Some (table (entry_table row.procs))) None)) all_files
  unfolding limits_table
  at_key q =
      with_files q all_files _
      ∙ ap (λ rest. fold (looked q) rest all_files)
      (get-with_key q texts.cgroup_subtree_control _ _ ∙ ap (with_control q) (get-with_key q texts.cgroup_procs _ _))

  -- at the name of a limit file stands its table, where the file stands
  at_limit : (file : LimitFile) → get_member (file_name file) (limits_table row) ≡ table_of_file (file_of row file)
  at_limit MaxDescendants = at_key (file_name MaxDescendants)
  at_limit file = at_key (file_name file) ∙ or_none (table_of_file (file_of row file))

  no_limit : (file : OtherFile) → get_member (other_name file) (limits_table row) ≡ None
  no_limit CpuMax = at_key (other_name CpuMax)
  no_limit file = at_key (other_name file)

module _ (files : ToldFiles) where
  -- what stands at a key, once a further limit file is written
  abbrev looked_told : List ℕ → Option Data → OtherFile → Option Data
  looked_told q rest file = look q (other_name file) (table_of_told (told_in files file)) rest

  with_others : (q : List ℕ) (others : List OtherFile) (keys : Members)
      → get_member q (fold (with_told files) keys others) ≡ fold (looked_told q) (get_member q keys) others
  with_others q [] keys = refl
  with_others q (file ∷ others) keys =
      with_others q others (with_told files keys file)
      ∙ ap (λ rest. fold (looked_told q) rest others) (get-with_optional q (other_name file) (table_of_told (told_in files file)) keys)

  -- a further limit file of another name changes nothing
  abbrev is_none_of : List ℕ → List OtherFile → Bool
  is_none_of q others = list_all (λ file. not (is_eq (slice_cmp nat_cmp q (other_name file)))) others

  past_others : (q : List ℕ) (others : List OtherFile) (rest : Option Data) → is_none_of q others ≡ true
      → fold (looked_told q) rest others ≡ rest
  past_others q [] rest is = refl
  past_others q (file ∷ others) rest is =
      let parts = and_parts (not (is_eq (slice_cmp nat_cmp q (other_name file)))) (is_none_of q others) is in
      ap (λ b. fold (looked_told q) (cond b (or_so (table_of_told (told_in files file)) rest) rest) others)
      (not-true (is_eq (slice_cmp nat_cmp q (other_name file))) parts.0)
      ∙ past_others q others rest parts.1

  limits_apart : list_all (λ file. is_none_of (file_name file) all_others) all_files ≡ true
  limits_apart = refl

  past_limit : (file : LimitFile) → is_none_of (file_name file) all_others ≡ true
  past_limit file = each_passes (λ file. is_none_of (file_name file) all_others) limits_apart file

  found_told : (file : OtherFile) → fold (looked_told (other_name file)) None all_others ≡ table_of_told (told_in files file)
  found_told CpuMax = or_none (table_of_told (told_in files CpuMax))
  found_told file = or_none (table_of_told (told_in files file))

-- what is told of a file, where something is told
abbrev pub told_found : Option ToldFiles → OtherFile → Option ToldFile
told_found told file = option_and_then (λ files. told_in files file) told

module _ (row : Cgroup) where
  -- a key of no further limit file
  at_other_key : (told : Option ToldFiles) (q : List ℕ) → ((files : ToldFiles) → is_none_of files q all_others ≡ true)
      → get_member q (files_table row told) ≡ get_member q (limits_table row)
  unfolding files_table
  at_other_key None q apart = refl
  at_other_key (Some files) q apart =
      with_others files q all_others (limits_table row) ∙ past_others files q all_others (get_member q (limits_table row)) (apart files)

  pub at_file : (told : Option ToldFiles) (file : LimitFile)
      → get_member (file_name file) (files_table row told) ≡ table_of_file (file_of row file)
  at_file told file = at_other_key told (file_name file) (λ files. past_limit files file) ∙ at_limit row file

  pub at_procs : (told : Option ToldFiles)
      → get_member texts.cgroup_procs (files_table row told) ≡ Some (table (entry_table row.procs))
  at_procs told = at_other_key told texts.cgroup_procs (λ files. refl) ∙ at_key row texts.cgroup_procs

  pub at_control : (told : Option ToldFiles)
      → get_member texts.cgroup_subtree_control (files_table row told) ≡ Some (table (entry_table row.subtree_control))
  at_control told = at_other_key told texts.cgroup_subtree_control (λ files. refl) ∙ at_key row texts.cgroup_subtree_control

  -- at the name of a further limit file stands its table, where something is told of it
  pub at_told : (told : Option ToldFiles) (file : OtherFile)
      → get_member (other_name file) (files_table row told) ≡ table_of_told (told_found told file)
  unfolding files_table
  at_told None file = no_limit row file
  at_told (Some files) file =
      with_others files (other_name file) all_others (limits_table row)
      ∙ ap (λ rest. fold (looked_told files (other_name file)) rest all_others) (no_limit row file) ∙ found_told files file

-- ---- the files of a cgroup

module _ (format : Format) (row : Cgroup) where
  abbrev is_file_key : List ℕ → Bool
  is_file_key name = list_any (λ (key : Key). same_name name key.name) (file_keys_of format)

  abbrev only_files : Members → Bool
  only_files keys = are_among (file_keys_of format) keys

  asks_each : AsksEach is_file_key only_files
  asks_each = record { none = refl; one = λ key held keys. refl }

  names_pass : list_all (λ file. is_file_key (file_name file)) all_files ≡ true
  names_pass = refl

  among_with : (files : List LimitFile) (keys : Members) → only_files keys ≡ true → only_files (fold (with_file row) keys files) ≡ true
  among_with [] keys all = all
  among_with (file ∷ files) keys all =
      let here : is_file_key (file_name file) ≡ true = each_passes (λ name. is_file_key (file_name name)) names_pass file in
      among_with files (with_file row keys file) (only-with_optional is_file_key only_files asks_each (file_name file) _ keys here all)

  limits_among : only_files (limits_table row) ≡ true
  unfolding limits_table
  limits_among =
      let procs = only-with_key is_file_key only_files asks_each texts.cgroup_procs (table (entry_table row.procs)) no_members refl refl in
      among_with all_files _ (only-with_key is_file_key only_files asks_each texts.cgroup_subtree_control _ _ refl procs)

  among_told : list_all (λ file. is_file_key (other_name file)) all_others ≡ true
      → (files : ToldFiles) (others : List OtherFile) (keys : Members) → only_files keys ≡ true
      → only_files (fold (with_told files) keys others) ≡ true
  among_told named files [] keys all = all
  among_told named files (file ∷ others) keys all =
      let here : is_file_key (other_name file) ≡ true = each_other (λ name. is_file_key (other_name name)) named file in
      among_told named files others (with_told files keys file)
      (only-with_optional is_file_key only_files asks_each (other_name file) _ keys here all)

files_among_2 : (row : Cgroup) → only_files Two row (files_table row None) ≡ true
unfolding files_table
files_among_2 row = limits_among Two row

files_among_4 : (row : Cgroup) (told : Option ToldFiles) → only_files Four row (files_table row told) ≡ true
unfolding files_table
files_among_4 row None = limits_among Four row
files_among_4 row (Some files) = among_told Four row refl files all_others (limits_table row) (limits_among Four row)

module _ (row : Cgroup) (told : Option ToldFiles) where
  abbrev fits : Key → Bool
  fits = fits_at (files_table row told)

  limits_fit : list_all (λ file. fits (may_have (file_name file) (is_table (limit_keys Two)))) all_files ≡ true
  limits_fit =
      all_pass (λ file. fits (may_have (file_name file) (is_table (limit_keys Two))))
      (λ file. ap fits_limit (at_file row told file) ∙ file_in_form (file_of row file)) all_files

  others_fit : (others : List OtherFile) → list_all (λ file. fits (may_have (other_name file) (is_table (text_keys Two)))) others ≡ true
  others_fit others =
      others_pass (λ file. fits (may_have (other_name file) (is_table (text_keys Two))))
      (λ file. ap fits_told (at_told row told file) ∙ other_in_form (told_found told file)) others

  -- the keys of format 2, and those of further limit files
  files_fit : (others : List OtherFile) → list_all fits
      (may_have texts.cgroup_procs (is_table (owner_keys Two)) ∷ may_have texts.cgroup_subtree_control (is_table (owner_keys Two))
      ∷ (map (λ file. may_have (file_name file) (is_table (limit_keys Two))) all_files
      ++ map (λ file. may_have (other_name file) (is_table (text_keys Two))) others)) ≡ true
  files_fit others =
      let procs = ap fits_entry (at_procs row told) ∙ entry_in_form row.procs in
      let control = ap fits_entry (at_control row told) ∙ entry_in_form row.subtree_control in
      let limits = list_all-map fits (λ file. may_have (file_name file) (is_table (limit_keys Two))) all_files ∙ limits_fit in
      let further = list_all-map fits (λ file. may_have (other_name file) (is_table (text_keys Two))) others ∙ others_fit others in
      and_from _ _ procs (and_from _ _ control
      (list_all-append fits (map (λ file. may_have (file_name file) (is_table (limit_keys Two))) all_files)
      (map (λ file. may_have (other_name file) (is_table (text_keys Two))) others)
      ∙ and_from _ _ limits further))

files_in_form_2 : (row : Cgroup) → is_table (file_keys_of Two) (table (files_table row None)) ≡ true
files_in_form_2 row =
    and_from (only_files Two row (files_table row None)) (list_all (fits_at (files_table row None)) (file_keys_of Two)) (files_among_2 row)
    (files_fit row None [])

files_in_form_4 : (row : Cgroup) (told : Option ToldFiles) → is_table (file_keys_of Four) (table (files_table row told)) ≡ true
files_in_form_4 row told =
    and_from (only_files Four row (files_table row told)) (list_all (fits_at (files_table row told)) (file_keys_of Four))
    (files_among_4 row told) (files_fit row told all_others)

-- ---- rows

module _ (format : Format) (words : Vocabulary) (path : Names) (row : Cgroup) (told : Option ToldFiles) where
  row_in_form : is_table (owner_keys format) (table (entry_table row.dir)) ≡ true
      → is_table (file_keys_of format) (table (files_table row told)) ≡ true
      → is_table (row_keys format) (table (cgroup_table words path row told)) ≡ true
  unfolding cgroup_table with_key
  row_in_form dir files =
      and_from (are_texts (texts_array (names_in words row.enabled))) _ (texts_in_form (names_in words row.enabled))
      (and_from (is_table (owner_keys format) (table (entry_table row.dir))) _ dir
      (and_from (is_table (file_keys_of format) (table (files_table row told))) true files refl))

pub cgroup_in_form : (vocabulary : Vocabulary) (st : State) (path : Names) (row : Cgroup)
    → is_table (row_keys (written_in vocabulary)) (table (cgroup_table vocabulary path row (told_of vocabulary st path))) ≡ true
cgroup_in_form Format2 st path row = row_in_form Two Format2 path row None (entry_in_form row.dir) (files_in_form_2 row)
cgroup_in_form Format4 st path row =
    row_in_form Four Format4 path row (told_of Format4 st path) (entry_in_form row.dir) (files_in_form_4 row (told_of Format4 st path))

pub process_in_form : (pid : ℕ) (process : Process) → is_table live_keys (table (process_table pid process)) ≡ true
unfolding process_table with_key
process_in_form pid process = refl

-- ---- the top table

pub top_in_form : (vocabulary : Vocabulary) (st : State) → is_table document_keys (table (tree_document vocabulary st)) ≡ true
unfolding tree_document with_key
top_in_form vocabulary st =
    and_from (are_texts (texts_array (names_in vocabulary st.controllers))) true (texts_in_form (names_in vocabulary st.controllers)) refl
