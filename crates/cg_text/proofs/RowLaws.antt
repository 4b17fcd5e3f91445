-- What a row's reader makes of its tables: entries and values, or the clause that fails.
use Rattle.std.proofs.Common.{◌≡◌, ◌≢◌, ℕ, ◌+◌, ◌<◌, ◌≤◌, Bool, true, false, List, [], ◌∷◌, ◌++◌, ◌&&◌, cond, length}
use Rattle.std.proofs.Common.{get_or, take, map, filter_map, codes, Option, Some, None, is_some, option_map, option_and_then, unwrap_or}
use Rattle.std.proofs.Common.{Result, Ok, Err, refl, sym, ap, subst, ◌∙◌, true≢false, arith}
use Rattle.std.specs.Option.{ok_or}
use Rattle.std.specs.Result.{IsErr, IsErrAnd}
use Rattle.std.specs.List.{list_all, list_any}
use Rattle.std.proofs.lemmas.Bool.{false_from_ne_true, and_parts, and_from}
use Rattle.cg_cgroup.proofs.AllFiles.{each_passes, each_brought, held_as}
use Rattle.cg_format.proofs.TablesSay.{all_so, each_within, each_entry}
use Rattle.std.proofs.lemmas.List.{length-take-le}
use Rattle.std.proofs.lemmas.List.Folds.{list_all_at}
use Rattle.toml.specs.Data.{Members, no_members, as_table}
use Rattle.toml.specs.View.{view, table_view}
use Rattle.toml.specs.declared.value.Value.{Value}
use Rattle.cg_cgroup.specs.Paths.{Names}
use Rattle.cg_cgroup.specs.Files.{all_files, brought_files, format_2_entries, known_entries, entry_text, is_beyond}
use Rattle.cg_cgroup.specs.Told.{told_by}
use Rattle.cg_cgroup.specs.declared.other_file.OtherFile.{OtherFile}
use Rattle.cg_cgroup.specs.Cgroups.{file_of, entry_in, value_in as value_at}
use Rattle.cg_cgroup.proofs.Options.{some_value, mapped_from, is_some-mapped}
use Rattle.cg_cgroup.specs.declared.user.Entry.{Entry}
use Rattle.cg_format.specs.Tables.{freeze_at}
use Rattle.cg_cgroup.specs.declared.files.Limit.{Limit}
use Rattle.cg_cgroup.specs.declared.controllers.ControllerSet.{ControllerSet}
use Rattle.cg_cgroup.specs.declared.files.LimitFile.{LimitFile}
use Rattle.cg_cgroup.specs.declared.files.LimitFile.TheVariants.{MaxDescendants, MaxDepth}
use Rattle.cg_cgroup.specs.declared.files.EntryName.{EntryName}
use Rattle.cg_cgroup.specs.declared.files.EntryName.TheVariants.{Dir, Procs, SubtreeControl, File, Other}
use Rattle.cg_cgroup.specs.declared.cgroup.LimitEntry.{LimitEntry}
use Rattle.cg_cgroup.specs.declared.cgroup.Cgroup.{Cgroup}
use Rattle.cg_model.specs.Clauses.{first, unless, absent}
use Rattle.cg_format.specs.Said.{table_at, path_said, known_said, owner_said, limit_said, table_of, mode_missing}
use Rattle.cg_format.specs.Form.{vocabulary}
use Rattle.cg_format.specs.Said.{entry_said, value_said, is_named, text_said, file_said, told_row}
use Rattle.cg_format.specs.TextFaults.{row_faults, has_values}
use Rattle.cg_text.specs.Faults.{Passes}
use Rattle.cg_text.specs.Rows.{table_in, owner_in, limit_in, entry_with, names, needed_where, needed_by, file_in, entry_faults, IsCgroupOf, IsReadAs, AreReadAs}
use Rattle.cg_text.specs.Rows.{others_of, are_owned_in, have_texts_in, told_of}
use Rattle.cg_text.proofs.FurtherLaws.{two, all_known}
use Rattle.cg_format.specs.declared.fault.Place.TheVariants.{Cgroup as AtCgroup}
use Rattle.cg_format.specs.declared.fault.TreeFault.{TreeFault}
use Rattle.cg_format.specs.declared.fault.TreeFault.TheVariants.{BadPath, BadController, BadEntry, BadValue, NoMemory}
use Rattle.cg_format.specs.declared.format.Format.{Format}
use Rattle.cg_text.specs.declared.tree.row.Entries.{Entries}
use Rattle.cg_text.specs.declared.tree.row.Row.{Row}
use Rattle.cg_text.proofs.EachRow.{IsNextTable, tables_counted, table_taken}

-- ---- answers

pub ok_of : {A : Type 0} (o : Option A) (fault : TreeFault) (x : A) → Ok x ≡ ok_or o fault → o ≡ Some x
ok_of o fault x is = grind arith

pub err_of : {A : Type 0} (o : Option A) (fault found : TreeFault) → Err found ≡ ok_or o fault → (o ≡ None) × (fault ≡ found)
err_of o fault found is = grind arith

-- what a `?` returns
abbrev pub Returns : {X : Type 0} → Result X TreeFault → TreeFault → Type 0
Returns answer found = IsErr answer × IsErrAnd answer (λ other. other ≡ found)

pub passed_on : {X : Type 0} (P : X → Type 0) (fault : Option TreeFault) (answer : Result X TreeFault) (found : TreeFault)
    → Returns answer found → (found ≢ NoMemory → fault ≡ Some found) → Passes P fault answer
passed_on P fault (Ok x) found is expected = absurd is.1
passed_on P fault (Err other) found is expected = λ memory. rw is.1 (expected (rw is.1 at memory))

-- ---- all entries and all limit files

file_failed : (p : LimitFile → Bool) (file : LimitFile) → p file ≡ false → list_all p all_files ≡ false
file_failed p file is = false_from_ne_true (list_all p all_files) (λ all. true≢false (sym (each_passes p all file) ∙ is))

entry_failed : (p : EntryName → Bool) (name : EntryName) → is_beyond name ≡ false → p name ≡ false → list_all p format_2_entries ≡ false
entry_failed p name within is =
    false_from_ne_true (list_all p format_2_entries) (λ all. true≢false (sym (each_entry p all name within) ∙ is))

pub by_entry : (P : EntryName → Type 0) → P Dir → P Procs → P SubtreeControl → ((file : LimitFile) → P (File file))
    → (name : EntryName) → is_beyond name ≡ false → P name
by_entry P dir procs control files Dir within = dir
by_entry P dir procs control files Procs within = procs
by_entry P dir procs control files SubtreeControl within = control
by_entry P dir procs control files (File file) within = files file
by_entry P dir procs control files (Other file) within = absurd (true≢false within)

-- ---- a cgroup of entries

module _ (said : Entries) where
  abbrev pub owned : EntryName → Bool
  owned name = is_some (owner_in said name)

  -- each entry that texts name
  abbrev AreOwned : Type 0
  AreOwned = (name : EntryName) → is_beyond name ≡ false → is_some (owner_in said name) ≡ true

  abbrev pub valued : LimitFile → Bool
  valued file = is_some (limit_in said file)

  abbrev value_faults : List TreeFault
  value_faults = unless (list_all valued all_files) (BadValue said.place)

  -- the owner of an entry and the value of a limit file, as they are read
  abbrev pub HasOwner : EntryName → Entry → Type 0
  HasOwner name entry = Ok entry ≡ ok_or (owner_in said name) (BadEntry said.place)

  abbrev pub HasValue : LimitFile → Entry → LimitEntry → Type 0
  HasValue file entry held = Ok held ≡ ok_or (option_map (entry_with entry) (limit_in said file)) (BadValue said.place)

  owner_is : (name : EntryName) (entry : Entry) → HasOwner name entry → owner_in said name ≡ Some entry
  owner_is name entry is = ok_of (owner_in said name) (BadEntry said.place) entry is

  pub has_owner : (name : EntryName) (entry : Entry) → HasOwner name entry → is_some (owner_in said name) ≡ true
  has_owner name entry is = ap is_some (owner_is name entry is)

  pub no_owner : (name : EntryName) → is_beyond name ≡ false → {X : Type 0} (P : X → Type 0) (answer : Result X TreeFault)
      (found : TreeFault) → Returns answer found → Err found ≡ ok_or (owner_in said name) (BadEntry said.place)
      → Passes P (first (entry_faults said)) answer
  no_owner name within P answer found returns is =
      let missing = err_of (owner_in said name) (BadEntry said.place) found is in
      passed_on P (first (entry_faults said)) answer found returns
      (λ _.
      ap (λ b. first (unless b (BadEntry said.place) ++ value_faults)) (entry_failed owned name within (ap is_some missing.0))
      ∙ ap (λ fault. Some fault) missing.1)

  no_entry_fault : AreOwned → first (entry_faults said) ≡ first value_faults
  no_entry_fault are = ap (λ b. first (unless b (BadEntry said.place) ++ value_faults)) (each_within owned are)

  pub no_value : AreOwned → (file : LimitFile) (entry : Entry)
      {X : Type 0} (P : X → Type 0) (answer : Result X TreeFault) (found : TreeFault) → Returns answer found
      → Err found ≡ ok_or (option_map (entry_with entry) (limit_in said file)) (BadValue said.place)
      → Passes P (first (entry_faults said)) answer
  no_value are file entry P answer found returns is =
      let missing = err_of (option_map (entry_with entry) (limit_in said file)) (BadValue said.place) found is in
      let none : valued file ≡ false = sym (is_some-mapped (entry_with entry) (limit_in said file)) ∙ ap is_some missing.0 in
      passed_on P (first (entry_faults said)) answer found returns
      (λ _.
      no_entry_fault are ∙ ap (λ b. first (unless b (BadValue said.place))) (file_failed valued file none)
      ∙ ap (λ fault. Some fault) missing.1)

  -- a limit file of the cgroup that was read so
  pub record HasFile (cgroup : Cgroup) (file : LimitFile) : Type 0 where
    pub held : LimitEntry
    pub stands : file_of cgroup file ≡ Some held
    pub owner : owner_in said (File file) ≡ Some held.entry
    pub value : limit_in said file ≡ Some held.value

  pub has_file : (cgroup : Cgroup) (file : LimitFile) (entry : Entry) (held : LimitEntry) → file_of cgroup file ≡ Some held
      → HasOwner (File file) entry → HasValue file entry held → HasFile cgroup file
  has_file cgroup file entry held stands owner value =
      let o = option_map (entry_with entry) (limit_in said file) in
      let from = mapped_from (entry_with entry) (limit_in said file) held (ok_of o (BadValue said.place) held value) in
      record {
        held = held;
        stands = stands;
        owner = owner_is (File file) entry owner ∙ ap (λ (h : LimitEntry). Some h.entry) from.2;
        value = from.1 ∙ ap (λ (h : LimitEntry). Some h.value) from.2;
      }

  -- the files that controllers bring

  abbrev has_owner_at : LimitFile → Bool
  has_owner_at file = is_some (owner_in said (File file))

  both_parts : (owner : Option Entry) (value : Option Limit)
      → is_some (option_and_then (λ entry. option_map (entry_with entry) value) owner) ≡ true
      → (is_some owner ≡ true) × (is_some value ≡ true)
  both_parts None value h = absurd (true≢false (sym h))
  both_parts (Some entry) None h = absurd (true≢false (sym h))
  both_parts (Some entry) (Some value) h = (refl, refl)

  parts_both : (owner : Option Entry) (value : Option Limit) → is_some owner ≡ true → is_some value ≡ true
      → is_some (option_and_then (λ entry. option_map (entry_with entry) value) owner) ≡ true
  parts_both None value h k = absurd (true≢false (sym h))
  parts_both (Some entry) None h k = absurd (true≢false (sym k))
  parts_both (Some entry) (Some value) h k = refl

  all_parts : (files : List LimitFile) → list_all is_some (map (file_in said) files) ≡ true
      → (list_all has_owner_at files ≡ true) × (list_all valued files ≡ true)
  all_parts [] h = (refl, refl)
  all_parts (file ∷ files) h =
      let both = and_parts (is_some (file_in said file)) (list_all is_some (map (file_in said) files)) h in
      let one = both_parts (owner_in said (File file)) (limit_in said file) both.0 in
      let rest = all_parts files both.1 in
      (and_from _ _ one.0 rest.0, and_from _ _ one.1 rest.1)

  all_there : (files : List LimitFile) → list_all has_owner_at files ≡ true → list_all valued files ≡ true
      → list_all is_some (map (file_in said) files) ≡ true
  all_there [] h k = refl
  all_there (file ∷ files) h k =
      let owners = and_parts (has_owner_at file) (list_all has_owner_at files) h in
      let values = and_parts (valued file) (list_all valued files) k in
      and_from _ _ (parts_both (owner_in said (File file)) (limit_in said file) owners.0 values.0) (all_there files owners.1 values.1)

  -- those that were read are all there
  pub owners_there : (files : List (Option LimitEntry)) → files ≡ map (file_in said) brought_files → list_all is_some files ≡ true
      → list_all has_owner_at brought_files ≡ true
  owners_there files read there = (all_parts brought_files (sym (ap (list_all is_some) read) ∙ there)).0

  module _ (cgroup : Cgroup) (read : cgroup.files.entries ≡ map (file_in said) brought_files)
      (there : list_all is_some cgroup.files.entries ≡ true) where
    parts : (list_all has_owner_at brought_files ≡ true) × (list_all valued brought_files ≡ true)
    parts = all_parts brought_files (sym (ap (list_all is_some) read) ∙ there)

    has_brought : (file : LimitFile) → file ≢ MaxDescendants → file ≢ MaxDepth → HasFile cgroup file
    has_brought file other deeper =
        let owner = some_value (owner_in said (File file)) (each_brought has_owner_at parts.0 file other deeper) in
        let value = some_value (limit_in said file) (each_brought valued parts.1 file other deeper) in
        record {
          held = entry_with owner.0 value.0;
          stands =
              held_as cgroup (file_in said) read file other deeper
              ∙ (λ i. option_and_then (λ entry. option_map (entry_with entry) (value.1 i)) (owner.1 i));
          owner = owner.1;
          value = value.1;
        }

    pub has_each : HasFile cgroup MaxDescendants → HasFile cgroup MaxDepth → (file : LimitFile) → HasFile cgroup file
    has_each descendants depth MaxDescendants = descendants
    has_each descendants depth MaxDepth = depth
    has_each descendants depth file = has_brought file (λ is. cc) (λ is. cc)

  pub each_owned : (dir procs control descendants depth : Entry) → HasOwner Dir dir → HasOwner Procs procs → HasOwner SubtreeControl control
      → HasOwner (File MaxDescendants) descendants → HasOwner (File MaxDepth) depth → list_all has_owner_at brought_files ≡ true
      → AreOwned
  each_owned dir procs control descendants depth d p c a b brought =
      by_entry (λ name. is_some (owner_in said name) ≡ true) (has_owner Dir dir d) (has_owner Procs procs p)
      (has_owner SubtreeControl control c) of_file
    where
      of_file : (file : LimitFile) → is_some (owner_in said (File file)) ≡ true
      of_file MaxDescendants = has_owner (File MaxDescendants) descendants a
      of_file MaxDepth = has_owner (File MaxDepth) depth b
      of_file file = each_brought has_owner_at brought file (λ is. cc) (λ is. cc)

  -- where an owner or a value isn't so, it isn't so of all
  pub none_owned : list_all has_owner_at brought_files ≡ false → first (entry_faults said) ≡ Some (BadEntry said.place)
  none_owned is =
      let some = false_from_ne_true (list_all owned format_2_entries)
      (λ all. true≢false (sym (all_so has_owner_at (λ file. each_entry owned all (File file) refl) brought_files) ∙ is)) in
      ap (λ b. first (unless b (BadEntry said.place) ++ value_faults)) some

  pub none_valued : AreOwned → (files : List (Option LimitEntry))
      → files ≡ map (file_in said) brought_files → list_all is_some files ≡ false
      → first (entry_faults said) ≡ Some (BadValue said.place)
  none_valued are files read is =
      let some = false_from_ne_true (list_all valued all_files) (λ all.
      true≢false (sym (all_there brought_files (all_so has_owner_at (λ file. are (File file) refl) brought_files)
      (all_so valued (each_passes valued all) brought_files)) ∙ sym (ap (list_all is_some) read) ∙ is)) in
      no_entry_fault are ∙ ap (λ b. first (unless b (BadValue said.place))) some

  pub cgroup_read : (controllers : ControllerSet) (at : Option Entry) (cgroup : Cgroup) → cgroup.enabled ≡ controllers
      → cgroup.freeze ≡ at
      → HasOwner Dir cgroup.dir → HasOwner Procs cgroup.procs → HasOwner SubtreeControl cgroup.subtree_control
      → ((file : LimitFile) → HasFile cgroup file) → (first (entry_faults said) ≡ None) × IsCgroupOf said controllers at cgroup
  cgroup_read controllers at cgroup enabled freeze dir procs control files =
      let values : (file : LimitFile) → limit_in said file ≡ value_at cgroup file =
      λ file. (files file).value ∙ sym (ap (option_map (λ (f : LimitEntry). f.value)) (files file).stands) in
      let owners : (file : LimitFile) → owner_in said (File file) ≡ entry_in cgroup (File file) =
      λ file. (files file).owner ∙ sym (ap (option_map (λ (f : LimitEntry). f.entry)) (files file).stands) in
      let entries : (name : EntryName) → is_beyond name ≡ false → owner_in said name ≡ entry_in cgroup name =
      by_entry (λ name. owner_in said name ≡ entry_in cgroup name)
      (owner_is Dir cgroup.dir dir) (owner_is Procs cgroup.procs procs)
      (owner_is SubtreeControl cgroup.subtree_control control) owners in
      let are : AreOwned =
      by_entry (λ name. is_some (owner_in said name) ≡ true)
      (has_owner Dir cgroup.dir dir) (has_owner Procs cgroup.procs procs)
      (has_owner SubtreeControl cgroup.subtree_control control)
      (λ file. ap is_some (files file).owner) in (
        no_entry_fault are
            ∙ ap (λ b. first (unless b (BadValue said.place))) (all_so valued (λ file. ap is_some (files file).value) all_files),
        record {
          enabled = enabled;
          entries = λ name within. sym (entries name within);
          values = λ file. sym (values file);
          files = λ file. ap is_some (files file).stands;
          freeze = freeze;
        },
      )

-- ---- a row's table

module _ (said : Entries) (row : Members) (dir : option_map (λ table. table_view table.now) said.dir ≡ table_at (codes "dir") row)
    (files : option_map (λ table. table_view table.now) said.files ≡ table_at (codes "files") row) where
  table_is : (name : EntryName) → table_in said name ≡ table_of name row
  table_is Dir = dir
  table_is name = ap (option_and_then (table_at (entry_text name))) files

  entry_is : (name : EntryName) → owner_in said name ≡ entry_said said.format row name
  entry_is name = ap (λ table. owner_said said.format (mode_missing name) (unwrap_or table no_members)) (table_is name)

  value_is : (file : LimitFile) → limit_in said file ≡ value_said row file
  value_is file = ap (λ table. limit_said file (unwrap_or table no_members)) (table_is (File file))

  named_is : (file : LimitFile) → names said file ≡ is_named (File file) row
  named_is file = ap is_some (table_is (File file))

  text_is : (file : OtherFile) → text_said (unwrap_or (table_in said (Other file)) no_members)
      ≡ text_said (unwrap_or (table_of (Other file) row) no_members)
  text_is file = ap (λ table. text_said (unwrap_or table no_members)) (table_is (Other file))

  told_is : told_of said ≡ told_row said.format row
  told_is = λ i.
      cond (list_any (λ file. is_some (table_is (Other file) i)) (others_of said))
      (Some (told_by (λ file. option_and_then (file_said said.format) (table_is (Other file) i)))) None

  -- with a path and controllers, a row's faults are those of its entries and values
  pub faults_behind : (path : Names) (enabled : ControllerSet) → path_said (codes "path") row ≡ Some path
      → known_said said.format (codes "enabled") row ≡ Some enabled → first (row_faults said.format said.place row)
      ≡ two (BadEntry said.place) (BadValue said.place) (list_all (owned said) format_2_entries && are_owned_in said)
      (list_all (valued said) all_files && have_texts_in said)
  faults_behind path enabled has_path has_enabled =
      let known : List EntryName = known_entries (vocabulary said.format) in
      let entries = unless (list_all (λ name. is_some (entry_said said.format row name)) known) (BadEntry said.place) in
      let values = unless (has_values said.format row) (BadValue said.place) in
      let controllers = absent (known_said said.format (codes "enabled") row) (BadController said.place) in
      ap (λ o. first (absent o (BadPath said.place) ++ controllers ++ entries ++ values)) has_path
      ∙ ap (λ o. first (absent o (BadController said.place) ++ entries ++ values)) has_enabled
      ∙ sym
      (λ i.
      two (BadEntry said.place) (BadValue said.place) (list_all (λ name. is_some (entry_is name i)) known)
      (list_all (λ file. is_some (value_is file i)) all_files && list_all (λ file. is_some (text_is file i)) (others_of said)))
      ∙ ap
      (λ b. two (BadEntry said.place) (BadValue said.place) b (list_all (valued said) all_files && have_texts_in said))
      (all_known (owned said) (vocabulary said.format))

  pub row_read : (i : ℕ) (enabled : ControllerSet) (made : Row) → made.number ≡ i → path_said (codes "path") row ≡ Some made.path
      → known_said said.format (codes "enabled") row ≡ Some enabled → (freeze : Option Entry) → freeze ≡ freeze_at made.path
      → IsCgroupOf said enabled freeze made.cgroup → made.needed ≡ needed_by said
      → made.told ≡ told_of said → IsReadAs said.format i row made
  row_read i enabled made number path has_enabled freeze at is needed told = record {
    number = number;
    path = path;
    enabled = has_enabled ∙ ap (λ (set : ControllerSet). Some set) (sym is.enabled);
    entries = λ name within. sym (entry_is name) ∙ sym (is.entries name within);
    values = λ file. sym (value_is file) ∙ sym (is.values file);
    needed = needed ∙ (λ i. needed_where (λ file. named_is file i));
    files = is.files;
    freeze = is.freeze ∙ at;
    told = told ∙ told_is;
  }

-- a row without a path, or whose controllers aren't
pub no_path : {A : Type 0} (o : Option A) (fault found : TreeFault) (enabled entries values : List TreeFault)
    → first (absent o fault) ≡ Some found → first (absent o fault ++ enabled ++ entries ++ values) ≡ Some found
no_path o fault found enabled entries values is = grind arith

pub no_enabled : {A B : Type 0} (path : Option A) (o : Option B) (other fault : TreeFault) (entries values : List TreeFault)
    → is_some path ≡ true → o ≡ None → first (absent path other ++ absent o fault ++ entries ++ values) ≡ Some fault
no_enabled path o other fault entries values there none = grind arith

-- ---- rows in turn

-- rows that are read, and the next one
are_read_more : (format : Format) (i : ℕ) (tables : List Members) (rows : List Row) (table : Members) (row : Row)
    → AreReadAs format i tables rows → IsReadAs format (i + length tables) table row
    → AreReadAs format i (tables ++ table ∷ []) (rows ++ row ∷ [])
are_read_more format i [] [] table row are is = (subst (λ number. IsReadAs format number table row) (omega arith) is, tt)
are_read_more format i (other ∷ tables) (before ∷ rows) table row are is =
    (are.0, are_read_more format (i + 1) tables rows table row are.1 (subst (λ number. IsReadAs format number table row) (omega arith) is))
are_read_more format i tables rows table row are is = absurd are

-- the elements of which each is a table
module _ (format : Format) (elements : List Value) (are : list_all (λ held. is_some (as_table (view held))) elements ≡ true)
    (index : ℕ) where
  pub no_other : (element : Value) → index < length elements → element ≡ get_or elements index element
      → None ≡ as_table (view element) → ⊥
  no_other element below is none =
      let p : Value → Bool = λ held. is_some (as_table (view held)) in
      let fails : p (get_or elements index element) ≡ false = ap p (sym is) ∙ ap is_some (sym none) in
      true≢false (sym are ∙ list_all_at p elements index element below fails)

  abbrev tables : List Members
  tables = filter_map as_table (map view elements)

  pub row_added : (table : Members) (number : ℕ) → IsNextTable elements index table number → (rows : List Row) (row : Row)
      → AreReadAs format 1 (take index tables) rows → IsReadAs format number table row
      → AreReadAs format 1 (take (index + 1) tables) (rows ++ row ∷ [])
  row_added table number next rows row before read =
      let taken = table_taken (λ _. row_faults format) AtCgroup elements are index table number next in
      let inside : index ≤ length tables = omega (arith, next.within, tables_counted elements are) in
      let place : number ≡ 1 + length (take index tables) = omega (arith, next.counted, length-take-le index tables inside) in
      subst (λ tables. AreReadAs format 1 tables (rows ++ row ∷ [])) (sym taken)
      (are_read_more format 1 (take index tables) rows table row before (subst (λ i. IsReadAs format i table row) place read))
