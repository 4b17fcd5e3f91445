-- A text is read as one thing: the state that it is of, or the first of its faults.
use Rattle.std.proofs.Common.{◌≡◌, ℕ, true, false, codes, List, [], ◌∷◌, Option, Some, None, option_and_then, is_some, Ok, Err, sym, ap, ◌∙◌, true≢false, refl}
use Rattle.cg_model.specs.Clauses.{first}
use Rattle.cg_model.specs.States.{State}
use Rattle.cg_cgroup.proofs.Options.{same_some}
use Rattle.cg_format.specs.Readings.{Reading, IsReading, format_in, vocabulary_in}
use Rattle.cg_format.specs.TextOf.{IsTextOf}
use Rattle.cg_format.specs.TextFaults.{text_faults}
use Rattle.cg_format.specs.declared.fault.TreeFault.{TreeFault}
use Rattle.cg_format.specs.Form.{vocabulary}
use Rattle.cg_format.specs.Said.{format_said, is_named, tells}
use Rattle.cg_format.specs.declared.format.Format.{Format}
use Rattle.std.specs.List.{list_any}
use Rattle.std.specs.FinMap as map
use Rattle.toml.specs.Data.{Members}
use Rattle.cg_cgroup.specs.Paths.{Names}
use Rattle.cg_cgroup.specs.Files.{is_of, known_others}
use Rattle.cg_cgroup.specs.declared.files.EntryName.TheVariants.{Other}
use Rattle.cg_cgroup.specs.declared.files.Vocabulary.TheVariants.{Format2}
use Rattle.std.specs.Option.{option_map_or}
use Rattle.cg_format.proofs.SaidRanges.{said_of_known}
use Rattle.cg_format.proofs.OneState.{one_state, told_read}
use Rattle.cg_format.proofs.NoFaults.{no_faults}
use Rattle.cg_format.proofs.StateOf.{state_of_text}

pub a_reading : (bytes : List ℕ) → (tree : Reading) × IsReading bytes tree
a_reading bytes =
    elim (text_faults bytes) as (λ (faults : List TreeFault). text_faults bytes ≡ faults → (tree : Reading) × IsReading bytes tree) [
      | [] ↦ λ none.
          let made = state_of_text bytes none in
          (Ok made.0, made.1)
      | fault ∷ faults ↦ λ is. (Err fault, ap first is)
    ] refl

-- a text that is of a state has no first fault
no_first : (bytes : List ℕ) (st : State) (fault : TreeFault) → IsTextOf st bytes → first (text_faults bytes) ≡ Some fault
    → Ok st ≡ Err fault
no_first bytes st fault is found =
    absurd (true≢false (sym (ap is_some found) ∙ ap (λ faults. is_some (first faults)) (no_faults bytes st is)))

pub one_reading : (bytes : List ℕ) (tree other : Reading) → IsReading bytes tree → IsReading bytes other → tree ≡ other
one_reading bytes (Ok st) (Ok other) is also = ap Ok (one_state bytes st other is also)
one_reading bytes (Ok st) (Err fault) is also = no_first bytes st fault is also
one_reading bytes (Err fault) (Ok st) is also = sym (no_first bytes st fault also is)
one_reading bytes (Err fault) (Err other) is also = ap Err (same_some fault other (sym is ∙ also))

-- the state of a text has controllers alone that its format names
pub known_controllers : (bytes : List ℕ) (st : State) → IsTextOf st bytes → is_of (vocabulary_in bytes) st.controllers ≡ true
known_controllers bytes st is =
    let said : format_in bytes ≡ Some is.says.format = ap (option_and_then format_said) is.parsed ∙ is.says.form.format in
    ap (λ (found : Option Format). is_of (option_map_or vocabulary found Format2) st.controllers) said
    ∙ (said_of_known is.says.format (codes "controllers") is.document st.controllers is.says.controllers).1

-- formats 1 and 2 tell of no further limit files
tells_none : (format : Format) (row : Members) → vocabulary format ≡ Format2 → tells format row ≡ false
tells_none format row two = ap (λ words. list_any (λ file. is_named (Other file) row) (known_others words)) two

pub none_told : (bytes : List ℕ) (st : State) → IsTextOf st bytes → vocabulary_in bytes ≡ Format2 → (path : Names)
    → map.get st.told path ≡ None
none_told bytes st is two path =
    let said : format_in bytes ≡ Some is.says.format = ap (option_and_then format_said) is.parsed ∙ is.says.form.format in
    let words : vocabulary is.says.format ≡ Format2 =
    ap (λ (found : Option Format). option_map_or vocabulary found Format2) (sym said) ∙ two in
    elim (map.get st.told path) as (λ found. map.get st.told path ≡ found → found ≡ None) [
      | None ↦ λ _. refl
      | Some files ↦ λ there.
          let read = told_read st is.document is.says path files there in
          absurd (true≢false (sym read.1.tells ∙ tells_none is.says.format read.0 words))
    ] refl
