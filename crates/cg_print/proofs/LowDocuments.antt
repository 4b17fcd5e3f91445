-- What stands in a tree's document: no float, so that it has one spelling, and tables that nest few levels deep.
use Rattle.std.proofs.Common.{◌≡◌, ℕ, ◌+◌, ◌≤◌, true, false, List, [], ◌∷◌, map as map_list, codes, Option, Some, None, Ordering, Less, Equal, Greater, nat_cmp, refl, subst, arith}
use Rattle.std.specs.Prelude.{◌==◌, fold}
use Rattle.std.specs.List.{slice_split}
use Rattle.std.specs.Option.{option_map}
use Rattle.std.specs.Ordering.{match_ordering}
use Rattle.std.specs.Cmp.Lexicographic.{slice_cmp}
use Rattle.std.specs.FinMap as finite
use Rattle.toml.specs.Data.{Data, string, integer, float, boolean, datetime, array, table, depth, Items, no_items, item, items_depth, Members, no_members, member, members_depth}
use Rattle.toml.specs.View.{items_of}
use Rattle.cg_cgroup.specs.Paths.{Names}
use Rattle.cg_cgroup.specs.Texts as texts
use Rattle.cg_cgroup.specs.Files.{all_files, file_name, all_others, other_name}
use Rattle.cg_cgroup.specs.Cgroups.{file_of}
use Rattle.cg_cgroup.specs.Told.{told_in}
use Rattle.cg_cgroup.specs.declared.user.Entry.{Entry}
use Rattle.cg_cgroup.specs.declared.files.Limit.{Limit}
use Rattle.cg_cgroup.specs.declared.files.Limit.TheVariants.{Max, At}
use Rattle.cg_cgroup.specs.declared.files.LimitFile.{LimitFile}
use Rattle.cg_cgroup.specs.declared.files.Vocabulary.{Vocabulary}
use Rattle.cg_cgroup.specs.declared.other_file.OtherFile.{OtherFile}
use Rattle.cg_cgroup.specs.declared.told.FileText.{FileText}
use Rattle.cg_cgroup.specs.declared.told.ToldFile.{ToldFile}
use Rattle.cg_cgroup.specs.declared.told.ToldFiles.{ToldFiles}
use Rattle.cg_cgroup.specs.declared.cgroup.LimitEntry.{LimitEntry}
use Rattle.cg_cgroup.specs.declared.cgroup.Cgroup.{Cgroup}
use Rattle.cg_cgroup.specs.declared.process.Process.{Process}
use Rattle.cg_model.specs.States.{State}
use Rattle.cg_print.specs.Keys.{with_key, with_optional}
use Rattle.cg_print.specs.Documents.{texts_array, names_in, entry_table, value_written, limit_table, table_of_file, with_file, limits_table, lines_written, text_written, told_table, table_of_told, with_told, told_of, files_table, cgroup_table, process_table, processes_written, cgroups_written, tree_document}
use Rattle.cg_print.proofs.KeyLaws.{depth-with_key}

-- ---- what has one spelling: all but floats

abbrev mutual
  pub IsPlain : Data → Type 0
  IsPlain (string s) = Unit {0}
  IsPlain (integer z) = Unit {0}
  IsPlain (float x) = false ≡ true
  IsPlain (boolean b) = Unit {0}
  IsPlain (datetime dt) = Unit {0}
  IsPlain (array ds) = ArePlain ds
  IsPlain (table ms) = HasPlain ms

  pub ArePlain : Items → Type 0
  ArePlain no_items = Unit {0}
  ArePlain (item d ds) = IsPlain d × ArePlain ds

  pub HasPlain : Members → Type 0
  HasPlain no_members = Unit {0}
  HasPlain (member key d ms) = IsPlain d × HasPlain ms

plain_ordered : (o : Ordering) (a b c : Members) → HasPlain a → HasPlain b → HasPlain c → HasPlain (match_ordering o a b c)
plain_ordered Less a b c less equal greater = less
plain_ordered Equal a b c less equal greater = equal
plain_ordered Greater a b c less equal greater = greater

plain_key : (key : List ℕ) (held : Data) (keys : Members) → IsPlain held → HasPlain keys → HasPlain (with_key key held keys)
unfolding with_key
plain_key key held no_members value rest = (value, tt)
plain_key key held (member other was keys) value rest =
    plain_ordered (slice_cmp nat_cmp key other) (member key held (member other was keys)) (member other held keys)
    (member other was (with_key key held keys))
    (value, rest) (value, rest.1) (rest.0, plain_key key held keys value rest.1)

-- ---- and nests no deeper than so many levels

abbrev IsLow : ℕ → Data → Type 0
IsLow n held = IsPlain held × (depth held ≤ n)

abbrev HasLow : ℕ → Members → Type 0
HasLow n keys = HasPlain keys × (members_depth keys ≤ n)

no_keys : (n : ℕ) → HasLow n no_members
no_keys n = (tt, omega arith)

low_key : (n : ℕ) (key : List ℕ) (held : Data) (keys : Members) → IsLow n held → HasLow n keys → HasLow n (with_key key held keys)
low_key n key held keys here rest = (plain_key key held keys here.0 rest.0, depth-with_key n key held keys here.1 rest.1)

low_optional : (n : ℕ) (key : List ℕ) (found : Option Data) (keys : Members) → ((held : Data) → found ≡ Some held → IsLow n held)
    → HasLow n keys → HasLow n (with_optional key found keys)
unfolding with_optional
low_optional n key None keys each rest = rest
low_optional n key (Some held) keys each rest = low_key n key held keys (each held refl) rest

low_table : (n : ℕ) (keys : Members) → HasLow n keys → IsLow (n + 1) (table keys)
low_table n keys low = (low.0, omega (arith, low.1))

-- ---- the document of a tree

low_entry : (n : ℕ) (entry : Entry) → HasLow n (entry_table entry)
unfolding entry_table
low_entry n entry =
    low_key n _ _ _ (tt, omega arith) (low_key n _ _ _ (tt, omega arith) (low_key n _ _ no_members (tt, omega arith) (no_keys n)))

low_value : (value : Limit) → IsLow 0 (value_written value)
low_value Max = (tt, omega arith)
low_value (At n) = (tt, omega arith)

low_texts : (names : List (List ℕ))
    → ArePlain (items_of (map_list string names)) × (items_depth (items_of (map_list string names)) ≤ 0)
low_texts [] = (tt, omega arith)
low_texts (name ∷ names) = let rest = low_texts names in ((tt, rest.0), omega (arith, rest.1))

low_names : (n : ℕ) (names : List (List ℕ)) → IsLow (n + 1) (texts_array names)
low_names n names = let low = low_texts names in (low.0, omega (arith, low.1))

low_limit : (held : LimitEntry) → HasLow 0 (limit_table held)
unfolding limit_table
low_limit held = low_key 0 _ (value_written held.value) (entry_table held.entry) (low_value held.value) (low_entry 0 held.entry)

low_file : (found : Option LimitEntry) (other : Data) → table_of_file found ≡ Some other → IsLow 1 other
low_file None other is = cc
low_file (Some held) other is =
    let same : table (limit_table held) ≡ other = cc in
    subst (IsLow 1) same (low_table 0 (limit_table held) (low_limit held))

low_fold : (row : Cgroup) (files : List LimitFile) (keys : Members) → HasLow 1 keys → HasLow 1 (fold (with_file row) keys files)
low_fold row [] keys low = low
low_fold row (file ∷ files) keys low =
    low_fold row files (with_file row keys file)
    (low_optional 1 (file_name file) (table_of_file (file_of row file)) keys (low_file (file_of row file)) low)

low_limits : (row : Cgroup) → HasLow 1 (limits_table row)
unfolding limits_table
low_limits row =
    low_fold row all_files _
    (low_key 1 texts.cgroup_subtree_control (table (entry_table row.subtree_control)) _ (low_table 0 _ (low_entry 0 row.subtree_control))
    (low_key 1 texts.cgroup_procs (table (entry_table row.procs)) no_members (low_table 0 _ (low_entry 0 row.procs)) (no_keys 1)))

-- the value of a further limit file
low_lines : (lines : List (List ℕ)) → IsLow 1 (lines_written lines)
low_lines [] = low_names 0 []
low_lines (line ∷ []) = (tt, omega arith)
low_lines (line ∷ next ∷ lines) = low_names 0 (line ∷ next ∷ lines)

low_text : (value : Option FileText) (held : Data) → option_map text_written value ≡ Some held → IsLow 1 held
low_text None held is = cc
low_text (Some text) held is =
    let same : text_written text ≡ held = cc in
    subst (IsLow 1) same (low_lines (slice_split (λ b. b == 10) text))

low_told : (told : ToldFile) → HasLow 1 (told_table told)
unfolding told_table
low_told told =
    low_optional 1 (codes "value") (option_map text_written told.value) (entry_table told.entry) (low_text told.value)
    (low_entry 1 told.entry)

low_other : (found : Option ToldFile) (other : Data) → table_of_told found ≡ Some other → IsLow 2 other
low_other None other is = cc
low_other (Some told) other is =
    let same : table (told_table told) ≡ other = cc in
    subst (IsLow 2) same (low_table 1 (told_table told) (low_told told))

low_others : (files : ToldFiles) (others : List OtherFile) (keys : Members) → HasLow 2 keys → HasLow 2 (fold (with_told files) keys others)
low_others files [] keys low = low
low_others files (file ∷ others) keys low =
    low_others files others (with_told files keys file)
    (low_optional 2 (other_name file) (table_of_told (told_in files file)) keys (low_other (told_in files file)) low)

low_files : (row : Cgroup) (told : Option ToldFiles) → HasLow 2 (files_table row told)
unfolding files_table
low_files row None = let low = low_limits row in (low.0, omega (arith, low.1))
low_files row (Some files) = let low = low_limits row in low_others files all_others (limits_table row) (low.0, omega (arith, low.1))

low_cgroup : (vocabulary : Vocabulary) (st : State) (e : Names × Cgroup)
    → HasLow 3 (cgroup_table vocabulary e.0 e.1 (told_of vocabulary st e.0))
unfolding cgroup_table
low_cgroup vocabulary st e =
    let told : Option ToldFiles = told_of vocabulary st e.0 in
    low_key 3 _ (table (files_table e.1 told)) _ (low_table 2 _ (low_files e.1 told))
    (low_key 3 _ (table (entry_table e.1.dir)) _ (low_table 2 _ (low_entry 2 e.1.dir))
    (low_key 3 _ (texts_array (names_in vocabulary e.1.enabled)) _ (low_names 2 (names_in vocabulary e.1.enabled))
    (low_key 3 _ _ no_members (tt, omega arith) (no_keys 3))))

low_process : (e : ℕ × Process) → HasLow 3 (process_table e.0 e.1)
unfolding process_table
low_process e =
    low_key 3 _ _ _ (tt, omega arith) (low_key 3 _ _ _ (tt, omega arith) (low_key 3 _ _ no_members (tt, omega arith) (no_keys 3)))

low_rows : {E : Type 0} (write : E → Members) → ((e : E) → HasLow 3 (write e)) → (es : List E)
    → ArePlain (items_of (map_list (λ e. table (write e)) es)) × (items_depth (items_of (map_list (λ e. table (write e)) es)) ≤ 4)
low_rows write each [] = (tt, omega arith)
low_rows write each (e ∷ es) =
    let here = each e in
    let rest = low_rows write each es in
    ((here.0, rest.0), omega (arith, here.1, rest.1))

low_tree : (vocabulary : Vocabulary) (st : State) → HasLow 5 (tree_document vocabulary st)
unfolding tree_document
low_tree vocabulary st =
    let processes = low_rows (λ (e : ℕ × Process). process_table e.0 e.1) low_process (finite.entries st.live) in
    let cgroups =
    low_rows (λ (e : Names × Cgroup). cgroup_table vocabulary e.0 e.1 (told_of vocabulary st e.0)) (low_cgroup vocabulary st)
    (finite.entries st.rows) in
    low_key 5 _ (array (items_of (processes_written st))) _ (processes.0, omega (arith, processes.1))
    (low_key 5 _ (array (items_of (cgroups_written vocabulary st))) _ (cgroups.0, omega (arith, cgroups.1))
    (low_key 5 _ (texts_array (names_in vocabulary st.controllers)) _ (low_names 4 (names_in vocabulary st.controllers))
    (low_key 5 _ _ no_members (tt, omega arith) (no_keys 5))))

pub plain_tree : (vocabulary : Vocabulary) (st : State) → HasPlain (tree_document vocabulary st)
plain_tree vocabulary st = (low_tree vocabulary st).0

pub tree_depth : (vocabulary : Vocabulary) (st : State) → members_depth (tree_document vocabulary st) ≤ 80
tree_depth vocabulary st = let low = (low_tree vocabulary st).1 in omega (arith, low)
