-- The table of a cgroup tells of its further limit files what it was written of.
use Rattle.std.proofs.Common.{◌≡◌, ◌<◌, ◌≤◌, Bool, true, false, cond, ◌||◌, List, [], ◌∷◌, length, map, codes, get_or, Option, Some, None, is_some, option_map, option_and_then, refl, sym, ap, subst, ◌∙◌, true≢false, arith}
use Rattle.std.specs.List.{list_any}
use Rattle.std.specs.FinMap as finite
use Rattle.std.proofs.lemmas.List.{ext_get_or, get_or-map, length-map}
use Rattle.toml.specs.Data.{Members, as_table}
use Rattle.cg_cgroup.specs.Paths.{Names, path_cmp}
use Rattle.cg_cgroup.specs.Options.{◌>>=◌}
use Rattle.cg_cgroup.specs.Files.{all_others}
use Rattle.cg_cgroup.specs.Told.{told_in, told_by}
use Rattle.cg_cgroup.specs.declared.user.Entry.{Entry}
use Rattle.cg_cgroup.specs.declared.controllers.ControllerSet.{ControllerSet}
use Rattle.cg_cgroup.specs.declared.files.Vocabulary.{Vocabulary}
use Rattle.cg_cgroup.specs.declared.files.Vocabulary.TheVariants.{Format2, Format4}
use Rattle.cg_cgroup.specs.declared.files.EntryName.TheVariants.{Other}
use Rattle.cg_cgroup.specs.declared.other_file.OtherFile.{OtherFile}
use Rattle.cg_cgroup.specs.declared.other_file.OtherFile.TheVariants.{CpuMax}
use Rattle.cg_cgroup.specs.declared.told.FileText.{FileText}
use Rattle.cg_cgroup.specs.declared.told.ToldFile.{ToldFile}
use Rattle.cg_cgroup.specs.declared.told.ToldFiles.{ToldFiles}
use Rattle.cg_cgroup.specs.declared.cgroup.Cgroup.{Cgroup}
use Rattle.cg_cgroup.proofs.Options.{is_some-mapped}
use Rattle.cg_cgroup.proofs.ToldLaws.{same_told, number_at}
use Rattle.cg_model.specs.States.{State}
use Rattle.cg_model.specs.WellFormed.{enabled_above, IsFormedTold, IsWellFormed}
use Rattle.cg_format.specs.Said.{text_of, file_said, table_of, told_said, tells, told_row, is_named}
use Rattle.cg_format.specs.declared.format.Format.{Format}
use Rattle.cg_format.specs.declared.format.Format.TheVariants.{Two, Four}
use Rattle.cg_print.specs.Keys.{with_key, with_optional}
use Rattle.cg_print.specs.Documents.{entry_table, text_written, told_table, table_of_told, told_of, cgroup_table}
use Rattle.cg_print.specs.Carried.{HasIds, AllHaveIds, is_value_text, IsToldInText, AreToldInText, written_in}
use Rattle.cg_print.proofs.FormBack.{told_found, at_told}
use Rattle.cg_print.proofs.SaidBack.{numbers_again}
use Rattle.cg_print.proofs.TextLines.{text_again}

-- ---- one file

abbrev joined_told : Option Entry → Option (Option FileText) → Option ToldFile
joined_told entry value = do
  entry ← entry
  value ← value
  Some (record { entry = entry; value = value })

module _ (entry : Entry) (ids : HasIds entry) (small : entry.mode ≤ 511) where
  untold_again : file_said Four (entry_table entry) ≡ Some (record { entry = entry; value = None })
  unfolding entry_table with_key
  untold_again = ap (λ owner. joined_told owner (Some None)) (numbers_again 420 entry ids small)

  value_again : (text : FileText) → is_value_text text ≡ true
      → file_said Four (with_key (codes "value") (text_written text) (entry_table entry))
      ≡ Some (record { entry = entry; value = Some text })
  unfolding entry_table with_key
  value_again text may =
      let value : option_map Some (text_of (text_written text)) ≡ Some (Some text) = ap (option_map Some) (text_again text may) in
      let owner = numbers_again 420 entry ids small in
      λ i. joined_told (owner i) (value i)

  file_again : (value : Option FileText) → ((text : FileText) → value ≡ Some text → is_value_text text ≡ true)
      → file_said Four (with_optional (codes "value") (option_map text_written value) (entry_table entry))
      ≡ Some (record { entry = entry; value = value })
  unfolding with_optional
  file_again None may = untold_again
  file_again (Some text) may = value_again text (may text refl)

-- a file of which this is told can be written
record IsWritable (told : ToldFile) : Type 0 where
  ids : HasIds told.entry
  small : told.entry.mode ≤ 511
  may : (text : FileText) → told.value ≡ Some text → is_value_text text ≡ true

told_again : (told : ToldFile) → IsWritable told → file_said Four (told_table told) ≡ Some told
unfolding told_table
told_again told is = file_again told.entry is.ids is.small told.value is.may

found_again : (found : Option ToldFile) → ((told : ToldFile) → found ≡ Some told → IsWritable told)
    → option_and_then (file_said Four) (option_map told_table found) ≡ found
found_again None each = refl
found_again (Some told) each = told_again told (each told refl)

-- ---- all files

of_told : (found : Option ToldFile) → option_and_then as_table (table_of_told found) ≡ option_map told_table found
of_told None = refl
of_told (Some told) = refl

-- at a file's name stands the table of what is told of it
table_told : (vocabulary : Vocabulary) (path : Names) (row : Cgroup) (told : Option ToldFiles) (file : OtherFile)
    → table_of (Other file) (cgroup_table vocabulary path row told) ≡ option_map told_table (told_found told file)
unfolding cgroup_table with_key
table_told vocabulary path row told file = ap (option_and_then as_table) (at_told row told file) ∙ of_told (told_found told file)

named_told : (vocabulary : Vocabulary) (path : Names) (row : Cgroup) (told : Option ToldFiles) (file : OtherFile)
    → is_named (Other file) (cgroup_table vocabulary path row told) ≡ is_some (told_found told file)
named_told vocabulary path row told file =
    ap is_some (table_told vocabulary path row told file) ∙ is_some-mapped told_table (told_found told file)

-- files of which the same is told, each, are the same
same_by : (files : ToldFiles) (held : OtherFile → Option ToldFile) → ((file : OtherFile) → held file ≡ told_in files file)
    → told_by held ≡ files
same_by files held each =
    same_told files (told_by held)
    (ext_get_or None (map held all_others) files.entries (length-map all_others held ∙ sym files.whole) (λ k within.
    let inside : k < length all_others = omega (arith, within, length-map all_others held) in
    get_or-map held all_others k CpuMax None inside ∙ each (get_or all_others k CpuMax)
    ∙ ap (λ number. get_or files.entries number None) (number_at k CpuMax inside)))

-- what the table of a cgroup tells is what is told of its files
pub record IsToldBack (format : Format) (found : Option ToldFiles) (row : Members) : Type 0 where
  pub told : found ≡ told_row format row
  pub values : (file : OtherFile) → is_named (Other file) row ≡ true → is_some (told_said format row file) ≡ true

-- a table that names none tells nothing
none_back : (format : Format) (row : Members) → tells format row ≡ false
    → ((file : OtherFile) → is_named (Other file) row ≡ false) → IsToldBack format None row
none_back format row none unnamed = record {
  told = sym (ap (λ b. cond b (Some (told_by (told_said format row))) None) none);
  values = λ file named. absurd (true≢false (sym named ∙ unnamed file));
}

none_any : (test : OtherFile → Bool) → ((file : OtherFile) → test file ≡ false) → (files : List OtherFile) → list_any test files ≡ false
none_any test fails [] = refl
none_any test fails (file ∷ files) = ap (λ b. b || list_any test files) (fails file) ∙ none_any test fails files

module _ (path : Names) (row : Cgroup) (files : ToldFiles) (ids : AllHaveIds (Some files)) (above : ControllerSet)
    (formed : IsFormedTold above files) (is : IsToldInText files) where
  abbrev written : Members
  written = cgroup_table Format4 path row (Some files)

  writable : (file : OtherFile) (told : ToldFile) → told_in files file ≡ Some told → IsWritable told
  writable file told told_is = record {
    ids = ids files refl file told told_is;
    small = formed.modes file told told_is;
    may = λ text value. is.values file told text told_is value;
  }

  said_again : (file : OtherFile) → told_said Four written file ≡ told_in files file
  said_again file =
      ap (option_and_then (file_said Four)) (table_told Format4 path row (Some files) file)
      ∙ found_again (told_in files file) (writable file)

  tells_again : tells Four written ≡ true
  tells_again = (λ i. list_any (λ file. named_told Format4 path row (Some files) file i) all_others) ∙ is.some

  some_back : IsToldBack Four (Some files) written
  some_back = record {
    told = sym (ap (λ b. cond b (Some (told_by (told_said Four written))) None) tells_again
        ∙ ap Some (same_by files (told_said Four written) said_again));
    values = λ file named. ap is_some (said_again file) ∙ sym (named_told Format4 path row (Some files) file) ∙ named;
  }

found_back : (path : Names) (row : Cgroup) (found : Option ToldFiles) → AllHaveIds found → (above : ControllerSet)
    → ((files : ToldFiles) → found ≡ Some files → IsFormedTold above files × IsToldInText files)
    → IsToldBack Four found (cgroup_table Format4 path row found)
found_back path row None ids above each =
    none_back Four (cgroup_table Format4 path row None)
    (none_any (λ file. is_named (Other file) (cgroup_table Format4 path row None)) (named_told Format4 path row None) all_others)
    (named_told Format4 path row None)
found_back path row (Some files) ids above each = some_back path row files ids above (each files refl).0 (each files refl).1

pub told_back : (vocabulary : Vocabulary) (st : State) (path : Names) (row : Cgroup) → IsWellFormed st → AreToldInText vocabulary st
    → AllHaveIds (told_of vocabulary st path)
    → IsToldBack (written_in vocabulary) (finite.get st.told path) (cgroup_table vocabulary path row (told_of vocabulary st path))
told_back Format2 st path row formed none ids =
    subst (λ found. IsToldBack Two found (cgroup_table Format2 path row None))
    (sym (ap (λ told. finite.get told path) none ∙ finite.get-empty path_cmp path))
    (none_back Two (cgroup_table Format2 path row None) refl (named_told Format2 path row None))
told_back Format4 st path row formed are ids =
    found_back path row (finite.get st.told path) ids (enabled_above st path)
    (λ files is. ((formed.told path files is).1, are path files is))
