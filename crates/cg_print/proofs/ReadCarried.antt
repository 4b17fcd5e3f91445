-- What a text says can be carried by a text: it has no more cgroups and processes than the text has tables.
use Rattle.std.proofs.Common.{◌≡◌, ℕ, ◌+◌, ◌≤◌, Bool, true, false, cond, List, [], ◌∷◌, length, Ordering, codes, Option, Some, None, is_some, option_and_then, refl, sym, ap, subst, ◌∙◌, true≢false, arith}
use Rattle.std.specs.Prelude.{◌||◌, count_by, filter_map}
use Rattle.std.specs.List.{cons_option, AllByRecursion, list_any}
use Rattle.std.proofs.lemmas.Bool.{or_left, or_right}
use Rattle.std.specs.Ordering.{eq_by_cmp}
use Rattle.std.specs.Cmp.{IsTotalOrder, Equal-is, nat_cmp_total}
use Rattle.std.specs.FinMap as finite
use Rattle.std.specs.FinMap.{FinMap, IsAntisymmetric, get, entries, find, nat_cmp-IsAntisymmetric}
use Rattle.toml.specs.Data.{Data, Members, as_table}
use Rattle.std.specs.Option.{option_map_or}
use Rattle.cg_cgroup.specs.Paths.{Names, path_cmp}
use Rattle.cg_cgroup.specs.Files.{all_others}
use Rattle.cg_cgroup.specs.Told.{told_in}
use Rattle.cg_cgroup.specs.declared.files.EntryName.TheVariants.{Other}
use Rattle.cg_cgroup.specs.declared.files.Vocabulary.TheVariants.{Format2}
use Rattle.cg_cgroup.specs.declared.other_file.OtherFile.{OtherFile}
use Rattle.cg_cgroup.specs.declared.told.ToldFiles.{ToldFiles}
use Rattle.cg_cgroup.proofs.PathOrder.{path_cmp_total, path_cmp-IsAntisymmetric}
use Rattle.cg_model.specs.States.{State}
use Rattle.cg_model.proofs.Lists.{all-each}
use Rattle.cg_format.specs.Form.{vocabulary, most_rows}
use Rattle.cg_format.specs.Said.{elements_at, tables_at, has_path, format_said, is_named, tells, told_row}
use Rattle.cg_format.specs.Readings.{format_in, vocabulary_in}
use Rattle.cg_format.specs.TextOf.{IsRowOf, IsProcessOf, has_pid, IsDocumentOf, IsTextOf}
use Rattle.cg_format.specs.declared.format.Format.{Format}
use Rattle.cg_format.specs.declared.format.Format.TheVariants.{One, Two, Four}
use Rattle.cg_format.proofs.Cuts.{any_counted}
use Rattle.cg_format.proofs.OneState.{others_read, told_read, told_value_read}
use Rattle.cg_format.proofs.ReadingLaws.{known_controllers}
use Rattle.cg_format.proofs.ToldSaid.{row_told}
use Rattle.cg_print.specs.Carried.{IsToldInText, AreToldInText, IsCarried, written_in}
use Rattle.cg_print.proofs.DocumentBack.{path_ties, pid_ties}

-- ---- the tables of an array

one_at_most : (found : Option Members) (rest : List Members) (n : ℕ) → length rest ≤ n → length (cons_option found rest) ≤ n + 1
one_at_most None rest n few = omega arith
one_at_most (Some keys) rest n few = omega arith

tables_at_most : (values : List Data) → length (filter_map as_table values) ≤ length values
tables_at_most [] = omega arith
tables_at_most (value ∷ values) =
    omega (arith, one_at_most (as_table value) (filter_map as_table values) (length values) (tables_at_most values))

-- ---- the entries of a map

one_more : (has : Bool) (before after most : ℕ) → after ≡ cond has before (before + 1) → before ≤ most → after ≤ most + 1
one_more true before after most is few = omega arith
one_more false before after most is few = omega arith

where_there : {A : Type 0} (found : Option A) → cond (is_some found) found None ≡ found
where_there None = refl
where_there (Some x) = refl

-- a map of a list has as many entries at most
len_at_most : {K X : Type 0} {R : K → K → Ordering} → IsTotalOrder R → (es : List (K × X))
    → finite.len (finite.from_entries {R = R} es) ≤ length es
len_at_most {X = X} {R = R} total [] = omega (arith, finite.len-empty R X)
len_at_most {X = X} {R = R} total (e ∷ es) =
    let rest : FinMap R X = finite.from_entries es in
    let more : FinMap R X = finite.insert rest e.0 e.1 in
    let grown = finite.len-insert total rest e.0 e.1 in
    omega (arith, one_more (finite.contains_key rest e.0) (finite.len rest) (finite.len more) (length es) grown (len_at_most total es))

module _ {K X : Type 0} {R : K → K → Ordering} (m : FinMap R X) (test : K → Members → Bool) where
  -- a table of an entry, by whose key it is found
  record IsOfEntry (row : Members) : Type 0 where
    key : K
    held : X
    there : get m key ≡ Some held
    ties : (q : K) → test q row ≡ eq_by_cmp R q key

  abbrev entries_of : (rows : List Members) → AllByRecursion IsOfEntry rows → List (K × X)
  entries_of [] all = []
  entries_of (row ∷ rows) all = (all.0.key, all.0.held) ∷ entries_of rows all.1

  length-entries_of : (rows : List Members) (all : AllByRecursion IsOfEntry rows) → length (entries_of rows all) ≡ length rows
  length-entries_of [] all = refl
  length-entries_of (row ∷ rows) all = omega (arith, length-entries_of rows all.1)

  module _ (total : IsTotalOrder R) (same : IsAntisymmetric R) where
    find-entries_of : (q : K) (rows : List Members) (all : AllByRecursion IsOfEntry rows)
        → find R q (entries_of rows all) ≡ cond (list_any (test q) rows) (get m q) None
    find-entries_of q [] all = refl
    find-entries_of q (row ∷ rows) all =
        let later : find R q (entries_of rows all.1) ≡ cond (list_any (test q) rows) (get m q) None = find-entries_of q rows all.1 in
        elim (eq_by_cmp R q all.0.key)
        as (λ b. eq_by_cmp R q all.0.key ≡ b
        → cond b (Some all.0.held) (find R q (entries_of rows all.1)) ≡ cond (b || list_any (test q) rows) (get m q) None) [
          | true ↦ λ tie. sym (ap (get m) (same q all.0.key ((Equal-is _).0 tie)) ∙ all.0.there)
          | false ↦ λ _. later
        ] refl
        ∙ ap (λ b. cond (b || list_any (test q) rows) (get m q) None) (sym (all.0.ties q))

    -- where a table stands for each entry, the map has no more entries than there are tables
    entries_at_most : (rows : List Members) → AllByRecursion IsOfEntry rows
        → ((q : K) → count_by (test q) rows ≡ cond (is_some (get m q)) 1 0) → length (entries m) ≤ length rows
    entries_at_most rows all counts =
        let made : FinMap R X = finite.from_entries (entries_of rows all) in
        let stands : (q : K) → list_any (test q) rows ≡ is_some (get m q) =
        λ q. any_counted (test q) rows (is_some (get m q)) (counts q) in
        let found : (q : K) → get made q ≡ get m q =
        λ q. finite.get-from_entries total (entries_of rows all) q ∙ find-entries_of q rows all
        ∙ ap (λ b. cond b (get m q) None) (stands q) ∙ where_there (get m q) in
        let one : made ≡ m = finite.same_map total same made m found in
        omega (arith, finite.len-entries m, ap finite.len one, len_at_most total (entries_of rows all), length-entries_of rows all)

module _ (st : State) where
  row_entry : (format : Format) (row : Members) → IsRowOf format st row → IsOfEntry st.rows has_path row
  row_entry format row is = record { key = is.path; held = is.cgroup; there = is.there; ties = path_ties row is.path is.named }

  process_entry : (row : Members) → IsProcessOf st row → IsOfEntry st.live has_pid row
  process_entry row is = record { key = is.pid; held = is.process; there = is.there; ties = pid_ties row is.pid is.named }

-- ---- the vocabulary

rows_written : (format : Format) → most_rows (written_in (vocabulary format)) ≡ most_rows format
rows_written One = refl
rows_written Two = refl
rows_written Four = refl

words_in : (text : List ℕ) (st : State) (is : IsTextOf st text) → vocabulary_in text ≡ vocabulary is.says.format
words_in text st is =
    let said : format_in text ≡ Some is.says.format = ap (option_and_then format_said) is.parsed ∙ is.says.form.format in
    ap (λ (found : Option Format). option_map_or vocabulary found Format2) said

-- so many rows has a text of its own vocabulary at most
rows_in : (text : List ℕ) (st : State) (is : IsTextOf st text) → most_rows (written_in (vocabulary_in text)) ≡ most_rows is.says.format
rows_in text st is = ap (λ words. most_rows (written_in words)) (words_in text st is) ∙ rows_written is.says.format

-- ---- what is told of further limit files

any_passes : (test other : OtherFile → Bool) → ((file : OtherFile) → test file ≡ true → other file ≡ true) → (files : List OtherFile)
    → list_any test files ≡ true → list_any other files ≡ true
any_passes test other each [] any = any
any_passes test other each (file ∷ files) any =
    elim (test file) as (λ b. test file ≡ b → (b || list_any test files) ≡ true → list_any other (file ∷ files) ≡ true) [
      | true ↦ λ here _. or_left (other file) (list_any other files) (each file here)
      | false ↦ λ _ later. or_right (other file) (list_any other files) (any_passes test other each files later)
    ] refl any

-- a row that tells something has a format that names these files
some_told : (format : Format) (row : Members) (test : OtherFile → Bool)
    → ((file : OtherFile) → is_named (Other file) row ≡ true → test file ≡ true) → tells format row ≡ true
    → list_any test all_others ≡ true
some_told One row test each so = absurd (true≢false (sym so))
some_told Two row test each so = absurd (true≢false (sym so))
some_told Four row test each so = any_passes (λ file. is_named (Other file) row) test each all_others so

module _ (st : State) (document : Members) (is : IsDocumentOf st document) where
  told_in_text : (path : Names) (files : ToldFiles) → finite.get st.told path ≡ Some files → IsToldInText files
  told_in_text path files there =
      let read = told_read st document is path files there in
      let each = (row_told is.format read.0 files (sym read.1.said)).each in
      record {
        some = some_told is.format read.0 (λ file. is_some (told_in files file))
            (λ file named. ap is_some (each file) ∙ read.1.values file named) read.1.tells;
        values = told_value_read st document is path files there;
      }

  -- formats 1 and 2 tell nothing
  nothing_told : ((row : Members) → told_row is.format row ≡ None) → st.told ≡ finite.empty
  nothing_told none =
      finite.same_map path_cmp_total path_cmp-IsAntisymmetric st.told finite.empty (λ path.
      absent (finite.get st.told path) (λ files there.
      let read = told_read st document is path files there in
      true≢false (ap is_some (read.1.said ∙ none read.0)))
      ∙ sym (finite.get-empty path_cmp path))
    where
      absent : (found : Option ToldFiles) → ((files : ToldFiles) → found ≡ Some files → ⊥) → found ≡ None
      absent None never = refl
      absent (Some files) never = absurd (never files refl)

  told_carried : (format : Format) → is.format ≡ format → AreToldInText (vocabulary format) st
  told_carried One same = nothing_told (λ row. ap (λ format. told_row format row) same)
  told_carried Two same = nothing_told (λ row. ap (λ format. told_row format row) same)
  told_carried Four same = told_in_text

-- ---- the whole

pub read_carried : (text : List ℕ) (st : State) → IsTextOf st text → IsCarried (vocabulary_in text) st
read_carried text st is =
    let rows : List Members = tables_at (codes "cgroup") is.document in
    let lives : List Members = tables_at (codes "process") is.document in
    let of_rows = all-each _ _ (row_entry st is.says.format) rows is.says.cgroups in
    let of_lives = all-each _ _ (process_entry st) lives is.says.processes in
    let cgroups = entries_at_most st.rows has_path path_cmp_total path_cmp-IsAntisymmetric rows of_rows is.says.paths in
    let processes = entries_at_most st.live has_pid nat_cmp_total nat_cmp-IsAntisymmetric lives of_lives is.says.pids in
    let most = rows_in text st is in
    record {
      cgroups = omega (arith, most, is.says.form.few_cgroups, tables_at_most (elements_at (codes "cgroup") is.document), cgroups);
      processes = omega (arith, most, is.says.form.few_processes, tables_at_most (elements_at (codes "process") is.document), processes);
      controllers = known_controllers text st is;
      told = subst (λ words. AreToldInText words st) (sym (words_in text st is)) (told_carried st is.document is.says is.says.format refl);
      others = others_read st is.document is.says;
      used = is.says.used;
    }
