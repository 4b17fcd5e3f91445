-- The first fault of a document, part by part, as the reader finds it; the tables of one in form; and the text whose document it is.
use Rattle.std.proofs.Common.{◌≡◌, ◌≢◌, ℕ, ◌≤◌, true, nat_le, le-leb, List, [], ◌∷◌, ◌++◌, length, map as map_list, codes, Option, Some, None, is_some, Result, Ok, Err, MatchResult, refl, sym, ap, ◌∙◌, true≢false}
use Rattle.std.specs.List.{list_all}
use Rattle.std.specs.Option.{ok_or, option_or}
use Rattle.std.proofs.lemmas.Bool.{and_parts, and_from}
use Rattle.toml.specs.Data.{Data, table, Members, as_table}
use Rattle.toml.specs.View.{view}
use Rattle.toml.specs.declared.value.Value.{Value}
use Rattle.cg_cgroup.specs.declared.controllers.ControllerSet.{ControllerSet}
use Rattle.cg_model.specs.Clauses.{unless, absent, present, first}
use Rattle.cg_model.specs.States.{State}
use Rattle.cg_model.proofs.ClauseLaws.{first_none, first_some}
use Rattle.cg_format.specs.Form.{Key, is_table}
use Rattle.cg_format.specs.Said.{tables_at, known_said, format_said}
use Rattle.cg_format.specs.TextOf.{IsInForm, IsDocumentOf, IsTextOf}
use Rattle.cg_format.specs.TextFaults.{each_cgroup, each_process, form_faults, row_faults, cgroup_faults, process_faults, said_faults, document_faults, text_faults}
use Rattle.cg_format.specs.TreeTexts.{longest_text, document_of}
use Rattle.cg_format.specs.declared.fault.Place.TheVariants.{Top}
use Rattle.cg_format.specs.declared.fault.TreeFault.{TreeFault}
use Rattle.cg_format.specs.declared.fault.TreeFault.TheVariants.{TooLong, NotToml, BadController, NoMemory}
use Rattle.cg_format.specs.declared.format.Format.{Format}
use Rattle.cg_text.proofs.EachRow.{first_or}

-- ---- faults

pub form_fault : (document : Members) (fault : TreeFault) → first (form_faults document) ≡ Some fault
    → first (document_faults document) ≡ Some fault
form_fault document fault is =
    first_some (form_faults document) (present (format_said document) (λ format. said_faults format document)) fault is

four_or : {A : Type 0} (a b c d : List A) → first (((a ++ b) ++ c) ++ d)
    ≡ option_or (option_or (option_or (first a) (first b)) (first c)) (first d)
four_or a b c d = simp first_or

-- a document in form
module _ (document : Members) (format : Format) (passed : first (form_faults document) ≡ None) (form : IsInForm format document) where
  abbrev tables : List Members
  tables = tables_at (codes "cgroup") document

  abbrev alone : Option TreeFault
  alone = first (each_cgroup (λ _. row_faults format) tables)

  abbrev together : Option ControllerSet → Option TreeFault
  together controllers = first (cgroup_faults format controllers tables)

  abbrev living : Option TreeFault
  living = first (each_process (process_faults tables) (tables_at (codes "process") document))

  -- its faults, by its controllers
  faults_behind : (controllers : Option ControllerSet) → known_said format (codes "controllers") document ≡ controllers
      → first (document_faults document)
      ≡ option_or (option_or (option_or (first (absent controllers (BadController Top))) alone) (together controllers)) living
  faults_behind controllers is =
      first_none (form_faults document) (present (format_said document) (λ format. said_faults format document)) passed
      ∙ ap (λ o. first (present o (λ format. said_faults format document))) form.format
      ∙ four_or (absent (known_said format (codes "controllers") document) (BadController Top))
      (each_cgroup (λ _. row_faults format) tables) (cgroup_faults format (known_said format (codes "controllers") document) tables)
      (each_process (process_faults tables) (tables_at (codes "process") document))
      ∙ (λ i. option_or (option_or (option_or (first (absent (is i) (BadController Top))) alone) (together (is i))) living)

  pub controllers_fault : known_said format (codes "controllers") document ≡ None
      → first (document_faults document) ≡ Some (BadController Top)
  controllers_fault none = faults_behind None none

  module _ (controllers : ControllerSet) (named : known_said format (codes "controllers") document ≡ Some controllers)
      (fault : TreeFault) where
    pub row_fault : alone ≡ Some fault → first (document_faults document) ≡ Some fault
    row_fault is =
        faults_behind (Some controllers) named ∙ ap (λ o. option_or (option_or o (together (Some controllers))) living) is

    pub cgroup_fault : alone ≡ None → together (Some controllers) ≡ Some fault → first (document_faults document) ≡ Some fault
    cgroup_fault read is = faults_behind (Some controllers) named ∙ (λ i. option_or (option_or (read i) (is i)) living)

    pub process_fault : alone ≡ None → together (Some controllers) ≡ None → living ≡ Some fault
        → first (document_faults document) ≡ Some fault
    process_fault read none is = faults_behind (Some controllers) named ∙ (λ i. option_or (option_or (read i) (none i)) (is i))

-- what is answered where something is missing
pub missing_is : {A : Type 0} (o : Option A) (fault found : TreeFault) → ok_or o fault ≡ Err found → o ≡ None → found ≡ fault
missing_is None fault found is none = cc
missing_is (Some x) fault found is none = absurd (true≢false (ap is_some none))

-- ---- elements that are tables

table_is : (keys : List Key) (held : Data) → is_table keys held ≡ true → is_some (as_table held) ≡ true
table_is keys (table inside) is = refl
table_is keys held is = absurd (true≢false (sym is))

pub all_tables : (keys : List Key) (values : List Value) → list_all (is_table keys) (map_list view values) ≡ true
    → list_all (λ held. is_some (as_table (view held))) values ≡ true
all_tables keys [] are = refl
all_tables keys (value ∷ values) are =
    let parts = and_parts (is_table keys (view value)) (list_all (is_table keys) (map_list view values)) are in
    and_from (is_some (as_table (view value))) (list_all (λ held. is_some (as_table (view held))) values)
    (table_is keys (view value) parts.0) (all_tables keys values parts.1)

-- ---- texts

pub document_read : (found : Option Members) (document : Members) → ok_or found NotToml ≡ Ok document → found ≡ Some document
document_read None document is = cc
document_read (Some other) document is = let same : other ≡ document = cc in ap Some same

-- what is answered of a document holds of the text whose document it is
pub text_read : (bytes : List ℕ) (document : Members) (result : Result State TreeFault) → length bytes ≤ longest_text bytes
    → document_of bytes ≡ Some document
    → MatchResult result (λ st. IsDocumentOf st document) (λ fault. fault ≢ NoMemory → first (document_faults document) ≡ Some fault)
    → MatchResult result (λ st. IsTextOf st bytes) (λ fault. fault ≢ NoMemory → first (text_faults bytes) ≡ Some fault)
text_read bytes document (Ok st) short parsed read = record { short = short; document = document; parsed = parsed; says = read }
text_read bytes document (Err fault) short parsed read = λ other.
    let fits : nat_le (length bytes) (longest_text bytes) ≡ true = le-leb (length bytes) (longest_text bytes) short in
    (λ i. first (unless (fits i) TooLong ++ absent (parsed i) NotToml ++ present (parsed i) document_faults)) ∙ read other
