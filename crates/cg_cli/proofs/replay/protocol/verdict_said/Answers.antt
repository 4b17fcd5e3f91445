use Rattle.std.proofs.lemmas.Result.{IfOk-weaker}
use Rattle.cg_cli.proofs.replay.protocol.verdict_said.Goals as goal

pub returns-in-Json : goal.returns-in-Json
returns-in-Json c = rw c.in-Json.is (IfOk-weaker c.verdict_json.result _ _ (λ text line. line.0) c.verdict_json.ensures)
