use Rattle.std.proofs.lemmas.Result.{IfOk-weaker}
use Rattle.cg_cli.proofs.explain.told.Goals as goal

pub returns-in-Json : goal.returns-in-Json
returns-in-Json g c = rw c.in-Json.is (IfOk-weaker c.explained_json.result _ _ (λ text line. line.0) c.explained_json.ensures)
