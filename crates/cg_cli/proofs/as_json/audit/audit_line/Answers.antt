use Rattle.std.proofs.lemmas.Result.{IfOk-weaker}
use Rattle.cg_cli.proofs.as_json.audit.audit_line.Goals as goal

pub returns : goal.returns
returns c = IfOk-weaker c.audit_json.result _ _ (λ text line. line.0) c.audit_json.ensures
