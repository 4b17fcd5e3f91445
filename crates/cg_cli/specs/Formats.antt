-- How pairs and what is told of them are written, as lines or as JSON. Own.
use Rattle.std.specs.Prelude.{ℕ, List, [], ◌∷◌, ◌++◌, Ok}
use Rattle.cg_report.specs.AnswerLines.{answer_text}
use Rattle.cg_report.specs.AuditLines.{pair_line}
use Rattle.cg_explain.specs.PairExplained.{pair_lines}
use Rattle.cg_explain.specs.Objects.{explained_value}
use Rattle.cg_json.specs.Lines.{json_line}
use Rattle.cg_json.specs.Audits.{contained_value, pair_value}
use Rattle.cg_model.specs.Listed.{Listed}
use Rattle.cg_cli.specs.AllPairs.{Listing, in_lines}
use Rattle.cg_cli.specs.FurtherPairs.{first_pair_status, first_pair_report}
use Rattle.cg_cli.specs.Reports.{Report}
use Rattle.cg_cli.specs.Explaining.{Writing}
use Rattle.cg_cli.specs.declared.format.Format.{Format}
use Rattle.cg_cli.specs.declared.format.Format.TheVariants.{Lines, Json}

abbrev pub told_in : Format → Writing
told_in Lines = pair_lines
told_in Json = λ st each. json_line (explained_value st each)

abbrev pub in_json : Listing
in_json = record { each = λ pair. json_line (pair_value pair); none = json_line contained_value }

abbrev pub listing_in : Format → Listing
listing_in Lines = in_lines
listing_in Json = in_json

-- a pair that is said alone: its line names the uid alone, and its object also the groups
abbrev pub one_in : Format → Listed → List ℕ
one_in Lines = λ pair. pair_line pair.user.uid pair.subtree ++ answer_text pair.subtree pair.found
one_in Json = λ pair. json_line (pair_value pair)

abbrev pub first_json : List Listed → List ℕ
first_json [] = in_json.none
first_json (pair ∷ pairs) = in_json.each pair

-- what is said of the first of some pairs
abbrev pub first_in : Format → List Listed → Report
first_in Lines = first_pair_report
first_in Json = λ pairs. record { text = first_json pairs; ending = Ok (first_pair_status pairs) }
