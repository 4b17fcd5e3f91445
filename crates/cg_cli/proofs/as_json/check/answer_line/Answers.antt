use Rattle.std.proofs.lemmas.Result.{IfOk-weaker}
use Rattle.cg_cli.proofs.as_json.check.answer_line.Goals as goal

pub returns : goal.returns
returns c = IfOk-weaker c.answer_json.result _ _ (λ text line. line.0) c.answer_json.ensures
