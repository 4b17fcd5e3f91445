-- How the outcome of an operation and a verdict are written, as lines or as JSON. Own.
use Rattle.std.specs.Prelude.{ℕ, List}
use Rattle.cg_cgroup.specs.declared.files.Vocabulary.{Vocabulary}
use Rattle.cg_json.specs.Lines.{json_line}
use Rattle.cg_json.specs.Outcomes.{outcome_value}
use Rattle.cg_json.specs.Verdicts.{verdict_value}
use Rattle.cg_lines.specs.Outcomes.{outcome_text}
use Rattle.cg_model.specs.declared.operation.Op.{Op}
use Rattle.cg_model.specs.declared.outcome.Outcome.{Outcome}
use Rattle.cg_model.specs.declared.verdict.Verdict.{Verdict}
use Rattle.cg_report.specs.VerdictLines.{verdict_text}
use Rattle.cg_cli.specs.declared.format.Format.{Format}
use Rattle.cg_cli.specs.declared.format.Format.TheVariants.{Lines, Json}
use Rattle.cg_cli.specs.declared.replay.protocol.Protocol.{Protocol}

abbrev pub outcome_in : Format → Op → Outcome → List ℕ
outcome_in Lines op outcome = outcome_text op outcome
outcome_in Json op outcome = json_line (outcome_value op outcome)

abbrev pub verdict_in : Format → Verdict → List ℕ
verdict_in Lines verdict = verdict_text verdict
verdict_in Json verdict = json_line (verdict_value verdict)

abbrev pub in_format : Format → Vocabulary → Protocol
in_format format vocabulary = record { vocabulary = vocabulary; format = format }
