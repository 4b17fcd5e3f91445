-- What the bytes of a tree text are read as: the state that they are of, or the first of their faults. Own.
use Rattle.std.specs.Prelude.{◌≡◌, ℕ, List, Option, Some, Result, Ok, Err, option_and_then}
use Rattle.std.specs.Option.{option_map_or}
use Rattle.cg_cgroup.specs.declared.files.Vocabulary.{Vocabulary}
use Rattle.cg_cgroup.specs.declared.files.Vocabulary.TheVariants.{Format2}
use Rattle.cg_model.specs.States.{State}
use Rattle.cg_model.specs.Clauses.{first}
use Rattle.cg_format.specs.TextOf.{IsTextOf}
use Rattle.cg_format.specs.TreeTexts.{document_of}
use Rattle.cg_format.specs.Form.{vocabulary}
use Rattle.cg_format.specs.Said.{format_said}
use Rattle.cg_format.specs.declared.format.Format.{Format}
use Rattle.cg_format.specs.TextFaults.{text_faults}
use Rattle.cg_format.specs.declared.fault.TreeFault.{TreeFault}

abbrev pub Reading : Type 0
Reading = Result State TreeFault

abbrev pub IsReading : List ℕ → Reading → Type 0
IsReading bytes (Ok st) = IsTextOf st bytes
IsReading bytes (Err fault) = first (text_faults bytes) ≡ Some fault

-- the format that a text says
abbrev pub format_in : List ℕ → Option Format
format_in bytes = option_and_then format_said (document_of bytes)

-- which controllers are named in what is written of a text's tree, and in the lines of operations on it
abbrev pub vocabulary_in : List ℕ → Vocabulary
vocabulary_in bytes = option_map_or vocabulary (format_in bytes) Format2

-- P holds of what the bytes are read as, which is one thing.
abbrev pub OnText : List ℕ → (Reading → Type 0) → Type 0
OnText bytes P = (tree : Reading) × IsReading bytes tree × P tree
