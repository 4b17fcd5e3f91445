use Rattle.std.proofs.lemmas.Result.{IfOk-weaker}
use Rattle.cg_cli.proofs.audit_all.text_of.Goals as goal

pub returns-in-Json : goal.returns-in-Json
returns-in-Json c = rw c.in-Json.is (IfOk-weaker c.pair_json.result _ _ (λ text line. line.0) c.pair_json.ensures)
