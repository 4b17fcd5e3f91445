-- The report on writing a tree text anew. Own.
use Rattle.std.specs.Prelude.{◌≡◌, ◌≢◌, ℕ, ◌≤◌, List, length, Option, Some, Result, Ok, Err}
use Rattle.cg_model.specs.States.{State}
use Rattle.cg_format.specs.Readings.{Reading}
use Rattle.cg_format.specs.TextOf.{IsTextOf}
use Rattle.cg_format.specs.TreeTexts.{longest_text, document_of}
use Rattle.cg_print.specs.Documents.{tree_document, IsSpelled}
use Rattle.cg_cli.specs.May.{tree_read}
use Rattle.cg_cli.specs.Reports.{Report, Reports, report_on}
use Rattle.cg_faults.specs.declared.fault.CliFault.{CliFault}
use Rattle.cg_faults.specs.declared.fault.CliFault.TheVariants.{NoMemory}
use Rattle.cg_cgroup.specs.declared.files.Vocabulary.{Vocabulary}

-- the text that is written, or the fault of the tree's text
abbrev pub upgrade_report : Reading → List ℕ → Report
upgrade_report tree text = report_on (tree_read tree) (λ st. record { text = text; ending = Ok 0 })

-- The text is that of the state's document, as `toml` spells it, in the format of the vocabulary. Unless it is too long for a
-- tree text it is one of the state.
pub record IsNewText (vocabulary : Vocabulary) (st : State) (text : List ℕ) : Type 0 where
  pub document : document_of text ≡ Some (tree_document vocabulary st)
  pub spelled : IsSpelled vocabulary st text
  pub state : length text ≤ longest_text text → IsTextOf st text

-- The text of the state that came is the report. The call may be out of memory before there is one.
pub record Upgrades (vocabulary : Vocabulary) (old new : Option (List ℕ)) (result : Result ℕ CliFault) (tree : Reading) : Type 0 where
  pub text : List ℕ
  pub written : (st : State) → tree ≡ Ok st → result ≢ Err NoMemory → IsNewText vocabulary st text
  pub reports : Reports (upgrade_report tree text) old new result
