-- What a row's reader makes of the limit files beyond `LimitFile`: what is told of each, or the clause that fails.
use Rattle.std.proofs.Common.{◌≡◌, ℕ, ◌+◌, ◌<◌, ◌≤◌, zero, suc, Bool, true, false, ◌&&◌, ◌||◌, not, cond, List, [], ◌∷◌, ◌++◌, length, map, take, set, get_or, Option, Some, None, is_some, option_map, option_and_then, unwrap_or, String, string_bytes, Global, refl, sym, ap, ◌∙◌, true≢false, arith}
use Rattle.std.specs.Option.{option_map_or}
use Rattle.std.specs.Borrow.{Bor}
use Rattle.std.specs.BTreeMap.{BTreeMap}
use Rattle.std.specs.List.{list_all, list_any}
use Rattle.std.proofs.lemmas.Bool.{and_from, or_parts}
use Rattle.std.proofs.lemmas.Option.{none-some, same_Some}
use Rattle.std.proofs.lemmas.List.{get_or-set_other, length-set, map_more, take_all, take_more, take_more_set}
use Rattle.std.proofs.lemmas.List.Folds.{list_all-append, list_all-map, list_all_more, list_all_at}
use Rattle.toml.specs.Data.{Members, no_members, member, get_member, as_table}
use Rattle.toml.specs.View.{table_view, members_view}
use Rattle.toml.specs.declared.value.Value.{Value}
use Rattle.cg_cgroup.specs.Options.{◌>>=◌}
use Rattle.cg_cgroup.specs.Paths.{same_name}
use Rattle.cg_cgroup.specs.Files.{all_others, other_name, known_others, known_entries, format_2_entries, entry_known_as}
use Rattle.cg_cgroup.specs.Told.{told_by, nothing_told}
use Rattle.cg_cgroup.specs.declared.user.Entry.{Entry}
use Rattle.cg_cgroup.specs.declared.files.Vocabulary.{Vocabulary}
use Rattle.cg_cgroup.specs.declared.files.Vocabulary.TheVariants.{Format2, Format4}
use Rattle.cg_cgroup.specs.declared.files.EntryName.{EntryName}
use Rattle.cg_cgroup.specs.declared.files.EntryName.TheVariants.{Other}
use Rattle.cg_cgroup.specs.declared.other_file.OtherFile.{OtherFile}
use Rattle.cg_cgroup.specs.declared.other_file.OtherFile.TheVariants.{CpuMax}
use Rattle.cg_cgroup.specs.declared.told.FileText.{FileText}
use Rattle.cg_cgroup.specs.declared.told.ToldFile.{ToldFile}
use Rattle.cg_cgroup.specs.declared.told.ToldFiles.{ToldFiles}
use Rattle.cg_cgroup.proofs.ToldLaws.{same_told, number_at}
use Rattle.cg_model.specs.Clauses.{first, unless}
use Rattle.cg_format.specs.Said.{table_at, owner_said, text_said, file_said}
use Rattle.cg_format.specs.declared.format.Format.{Format}
use Rattle.cg_format.specs.declared.format.Format.TheVariants.{One, Two, Four}
use Rattle.cg_format.specs.declared.fault.TreeFault.{TreeFault}
use Rattle.cg_text.specs.Rows.{has_beyond, names_other, is_owned, has_text, told_at, told_with, table_in}
use Rattle.cg_text.specs.declared.tree.row.Entries.{Entries}
use Rattle.cg_text.proofs.TakesLaws.{get_first, name_is}

-- ---- the clauses of formats 1 and 2, and those of the further files

module _ (entry value : TreeFault) where
  abbrev pub two : Bool → Bool → Option TreeFault
  two owned valued = first (unless owned entry ++ unless valued value)

  -- an owner of a further file isn't so
  pub not_owned : (owned other valued : Bool) → other ≡ false → two (owned && other) valued ≡ Some entry
  not_owned false other valued is = refl
  not_owned true false valued is = refl
  not_owned true true valued is = absurd (true≢false is)

  -- they are so, and another owner or value isn't
  pub ten_failed : (owned other valued texts : Bool) (fault : TreeFault) → other ≡ true → two owned valued ≡ Some fault
      → two (owned && other) (valued && texts) ≡ Some fault
  ten_failed owned false valued texts fault all is = absurd (true≢false (sym all))
  ten_failed false true valued texts fault all is = is
  ten_failed true true false texts fault all is = is
  ten_failed true true true texts fault all is = absurd (none-some fault is)

  -- it goes by the values of further files
  pub ten_passed : (owned other valued texts : Bool) → other ≡ true → two owned valued ≡ None
      → two (owned && other) (valued && texts) ≡ first (unless texts value)
  ten_passed owned false valued texts all none = absurd (true≢false (sym all))
  ten_passed false true valued texts all none = absurd (none-some entry (sym none))
  ten_passed true true false texts all none = absurd (none-some value (sym none))
  ten_passed true true true texts all none = refl

known_parts : (vocabulary : Vocabulary) → known_entries vocabulary ≡ format_2_entries ++ map Other (known_others vocabulary)
known_parts Format2 = refl
known_parts Format4 = refl

-- what all entries of a vocabulary pass
pub all_known : (test : EntryName → Bool) (vocabulary : Vocabulary)
    → list_all test (known_entries vocabulary)
    ≡ (list_all test format_2_entries && list_all (λ file. test (Other file)) (known_others vocabulary))
all_known test vocabulary =
    ap (list_all test) (known_parts vocabulary) ∙ list_all-append test format_2_entries (map Other (known_others vocabulary))
    ∙ ap (λ b. list_all test format_2_entries && b) (list_all-map test Other (known_others vocabulary))

-- ---- a file that isn't named

untold_owner : (format : Format) (found : Option Members) → is_some found ≡ false
    → is_some (owner_said format 420 (unwrap_or found no_members)) ≡ true
untold_owner One None is = refl
untold_owner Two None is = refl
untold_owner Four None is = refl
untold_owner format (Some table) is = absurd (true≢false is)

untold_text : (found : Option Members) → is_some found ≡ false → is_some (text_said (unwrap_or found no_members)) ≡ true
untold_text None is = refl
untold_text (Some table) is = absurd (true≢false is)

module _ (said : Entries) where
  pub unnamed_owned : (files : List OtherFile) → list_any (names_other said) files ≡ false → list_all (is_owned said) files ≡ true
  unnamed_owned [] none = refl
  unnamed_owned (file ∷ files) none =
      let parts = or_parts (names_other said file) (list_any (names_other said) files) none in
      and_from _ _ (untold_owner said.format (table_in said (Other file)) parts.0) (unnamed_owned files parts.1)

  pub unnamed_texts : (files : List OtherFile) → list_any (names_other said) files ≡ false → list_all (has_text said) files ≡ true
  unnamed_texts [] none = refl
  unnamed_texts (file ∷ files) none =
      let parts = or_parts (names_other said file) (list_any (names_other said) files) none in
      and_from _ _ (untold_text (table_in said (Other file)) parts.0) (unnamed_texts files parts.1)

  -- where one is named, all are known
  pub named_in_all : (vocabulary : Vocabulary) → list_any (names_other said) (known_others vocabulary) ≡ true
      → known_others vocabulary ≡ all_others
  named_in_all Format2 some = absurd (true≢false (sym some))
  named_in_all Format4 some = refl

-- ---- a table each of whose keys is one of formats 1 and 2

beyond_known : (file : OtherFile) → entry_known_as Format2 (other_name file) ≡ None
beyond_known CpuMax = refl
beyond_known file = refl

not_there : (members : Members) (file : OtherFile) → has_beyond members ≡ false → get_member (other_name file) members ≡ None
not_there no_members file none = refl
not_there (member name held rest) file none =
    let parts = or_parts (not (is_some (entry_known_as Format2 name))) (has_beyond rest) none in
    get_first (other_name file) name held rest
    ∙ (elim (same_name (other_name file) name) as
    (λ b. same_name (other_name file) name ≡ b → cond b (Some held) (get_member (other_name file) rest) ≡ None) [
      | true ↦ λ same.
          let own : entry_known_as Format2 name ≡ None =
          ap (entry_known_as Format2) (sym (name_is (other_name file) name same)) ∙ beyond_known file in
          absurd (true≢false (sym (ap (λ found. not (is_some found)) own) ∙ parts.0))
      | false ↦ λ _. not_there rest file parts.1
    ] refl)

-- at the next key of a loop over them
module _ (all : Members) (entries rest : List (String Global × Value)) (key : String Global) (value : Value) (name : List ℕ)
    (found : Option EntryName) (so_far : has_beyond (members_view entries) ≡ has_beyond all) (is : entries ≡ (key, value) ∷ rest)
    (named : name ≡ string_bytes key) (known : found ≡ entry_known_as Format2 name) where
  at_key : (not (is_some found) || has_beyond (members_view rest)) ≡ has_beyond all
  at_key =
      ap (λ found. not (is_some found) || has_beyond (members_view rest)) (known ∙ ap (entry_known_as Format2) named)
      ∙ sym (ap (λ es. has_beyond (members_view es)) is) ∙ so_far

  pub beyond_here : is_some found ≡ false → true ≡ has_beyond all
  beyond_here none = sym (ap (λ b. not b || has_beyond (members_view rest)) none) ∙ at_key

  pub beyond_later : is_some found ≡ true → has_beyond (members_view rest) ≡ has_beyond all
  beyond_later some = sym (ap (λ b. not b || has_beyond (members_view rest)) some) ∙ at_key

no_other : (test : OtherFile → Bool) → ((file : OtherFile) → test file ≡ false) → (files : List OtherFile) → list_any test files ≡ false
no_other test each [] = refl
no_other test each (file ∷ files) = (λ i. each file i || list_any test files) ∙ no_other test each files

table_none : (key : List ℕ) (found : Option Members) (none : (members : Members) → found ≡ Some members → get_member key members ≡ None)
    → option_and_then (table_at key) found ≡ None
table_none key None none = refl
table_none key (Some members) none = ap (λ held. option_and_then as_table held) (none members refl)

beyond_of : (files : Option (Bor (BTreeMap (String Global) Value)))
    → option_map_or (λ table. has_beyond (table_view table.now)) files false ≡ false
    → (row : Members) → option_map (λ table. table_view table.now) files ≡ Some row → has_beyond row ≡ false
beyond_of None none row is = absurd (none-some row is)
beyond_of (Some table) none row is = ap has_beyond (sym (same_Some _ _ is)) ∙ none

pub names_none : (said : Entries) → option_map_or (λ table. has_beyond (table_view table.now)) said.files false ≡ false
    → list_any (names_other said) all_others ≡ false
names_none said none =
    no_other (names_other said)
    (λ file.
    ap is_some
    (table_none (other_name file) (option_map (λ table. table_view table.now) said.files)
    (λ row some. not_there row file (beyond_of said.files none row some)))) all_others

-- ---- what is told of one

abbrev pub told_as : Entry → Option FileText → ToldFile
told_as entry value = record { entry = entry; value = value }

abbrev both : Option Entry → Option (Option FileText) → Option ToldFile
both owner text = do
  entry ← owner
  value ← text
  Some (record { entry = entry; value = value })

both_there : (owner : Option Entry) (text : Option (Option FileText)) (value : Option FileText) → text ≡ Some value
    → option_map (λ (entry : Entry). told_as entry value) owner ≡ both owner text
both_there None text value is = refl
both_there (Some entry) text value is = sym (ap (both (Some entry)) is)

module _ (format : Format) (found : Option Members) (fault : TreeFault) where
  abbrev text_fault : Option TreeFault
  text_fault = first (unless (is_some (text_said (unwrap_or found no_members))) fault)

  pub told_none : found ≡ None → (text_fault ≡ None) × (None ≡ option_and_then (file_said format) found)
  told_none none = (
    ap (λ found. first (unless (is_some (text_said (unwrap_or found no_members))) fault)) none,
    sym (ap (option_and_then (file_said format)) none),
  )

  pub text_none : (row : Members) → found ≡ Some row → text_said row ≡ None → text_fault ≡ Some fault
  text_none row some none =
      ap (λ found. first (unless (is_some (text_said (unwrap_or found no_members))) fault)) some
      ∙ ap (λ text. first (unless (is_some text) fault)) none

  pub told_some : (members : Members) (value : Option FileText) (owner : Option Entry) → found ≡ Some members
      → text_said members ≡ Some value → owner ≡ owner_said format 420 members
      → (text_fault ≡ None)
      × (option_map (λ (entry : Entry). told_as entry value) owner ≡ option_and_then (file_said format) found)
  told_some members value owner some said is = (
    ap (λ found. first (unless (is_some (text_said (unwrap_or found no_members))) fault)) some
        ∙ ap (λ text. first (unless (is_some text) fault)) said,
    both_there owner (text_said members) value said
        ∙ ap (λ owner. both owner (text_said members)) is ∙ sym (ap (option_and_then (file_said format)) some),
  )

-- ---- what is told of all, one after another

passed : (b : Bool) (fault : TreeFault) → first (unless b fault) ≡ None → b ≡ true
passed true fault none = refl
passed false fault none = absurd (none-some fault (sym none))

abbrev nothing : OtherFile → Option ToldFile
nothing file = None

none_there : (files : List OtherFile) (k : ℕ) → get_or (map nothing files) k None ≡ None
none_there [] k = refl
none_there (file ∷ files) zero = refl
none_there (file ∷ files) (suc k) = none_there files k

module _ (said : Entries) where
  -- what is told of the first files is what their tables tell, each of which has a value that is so; of the others nothing is yet
  pub record AreTold (i : ℕ) (entries : List (Option ToldFile)) : Type 0 where
    pub long : length entries ≡ length all_others
    pub front : take i entries ≡ map (told_at said) (take i all_others)
    pub rest : (k : ℕ) → i ≤ k → get_or entries k None ≡ None
    pub texts : list_all (has_text said) (take i all_others) ≡ true

  pub nothing_yet : AreTold 0 nothing_told.entries
  nothing_yet = record { long = nothing_told.whole; front = refl; rest = λ k from. none_there all_others k; texts = refl }

  module _ (i : ℕ) (files : ToldFiles) (d : OtherFile) (so_far : AreTold i files.entries) (within : i < length all_others) where
    abbrev file : OtherFile
    file = get_or all_others i d

    there : i < length files.entries
    there = omega (arith, within, so_far.long)

    with_one : has_text said file ≡ true → (entries : List (Option ToldFile)) → length entries ≡ length all_others
        → take (i + 1) entries ≡ take i files.entries ++ told_at said file ∷ []
        → ((k : ℕ) → i + 1 ≤ k → get_or entries k None ≡ None) → AreTold (i + 1) entries
    with_one fits entries long more rest = record {
      long = long;
      front = more ∙ (λ j. so_far.front j ++ told_at said file ∷ []) ∙ sym (map_more (told_at said) all_others i d within);
      rest = rest;
      texts = list_all_more (has_text said) all_others i d within ∙ and_from _ _ so_far.texts fits;
    }

    told_one : has_text said file ≡ true → (new : ToldFiles) (found : Option ToldFile) → told_at said file ≡ found
        → new ≡ told_with found file files → AreTold (i + 1) new.entries
    told_one fits new None none same =
        with_one fits new.entries (ap (λ (f : ToldFiles). length f.entries) same ∙ so_far.long)
        (ap (λ (f : ToldFiles). take (i + 1) f.entries) same ∙ take_more files.entries i None there
        ∙ ap (λ told. take i files.entries ++ told ∷ []) (so_far.rest i (omega arith) ∙ sym none))
        (λ k from. ap (λ (f : ToldFiles). get_or f.entries k None) same ∙ so_far.rest k (omega (arith, from)))
    told_one fits new (Some told) some same =
        let entries : List (Option ToldFile) = set files.entries i (Some told) in
        let own : new.entries ≡ entries =
        ap (λ (f : ToldFiles). f.entries) same ∙ ap (λ n. set files.entries n (Some told)) (number_at i d within) in
        with_one fits new.entries (ap length own ∙ length-set files.entries i (Some told) ∙ so_far.long)
        (ap (take (i + 1)) own ∙ take_more_set files.entries i (Some told) there
        ∙ ap (λ told. take i files.entries ++ told ∷ []) (sym some))
        (λ k from.
        ap (λ entries. get_or entries k None) own
        ∙ get_or-set_other files.entries i k (Some told) None (omega (arith, from)) ∙ so_far.rest k (omega (arith, from)))

    pub told_more : (fault : TreeFault) (new : ToldFiles) → first (unless (has_text said file) fault) ≡ None
        → new ≡ told_with (told_at said file) file files → AreTold (i + 1) new.entries
    told_more fault new none is = told_one (passed (has_text said file) fault none) new (told_at said file) refl is

    pub text_failed : (fault found : TreeFault) → first (unless (has_text said file) fault) ≡ Some found
        → first (unless (list_all (has_text said) all_others) fault) ≡ Some found
    text_failed fault found is =
        elim (has_text said file) as
        (λ b. has_text said file ≡ b → first (unless b fault) ≡ Some found
        → first (unless (list_all (has_text said) all_others) fault) ≡ Some found) [
          | true ↦ λ _ none. absurd (none-some found none)
          | false ↦ λ fails some.
              ap (λ b. first (unless b fault)) (list_all_at (has_text said) all_others i d within fails) ∙ some
        ] refl is

  pub told_all : (i : ℕ) (files : ToldFiles) (fault : TreeFault) → AreTold i files.entries → length all_others ≤ i
      → (first (unless (list_all (has_text said) all_others) fault) ≡ None) × (files ≡ told_by (told_at said))
  told_all i files fault so_far past = (
    ap (λ b. first (unless b fault)) (ap (list_all (has_text said)) (sym (take_all i all_others past)) ∙ so_far.texts),
    same_told (told_by (told_at said)) files
        (sym (take_all i files.entries (omega (arith, past, so_far.long))) ∙ so_far.front
        ∙ ap (map (told_at said)) (take_all i all_others past)),
  )
