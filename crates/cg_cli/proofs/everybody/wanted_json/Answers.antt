use Rattle.std.proofs.lemmas.Result.{IfOk-weaker}
use Rattle.cg_cli.proofs.everybody.wanted_json.Goals as goal

pub returns-in-Audit : goal.returns-in-Audit
returns-in-Audit g c =
    rw c.in-Audit.is
    (IfOk-weaker c.audited_json.result _ _ (λ text line. line.0) (rw c.is_found-found.ensures at c.audited_json.ensures))

pub returns-in-Advise : goal.returns-in-Advise
returns-in-Advise g c =
    rw c.in-Advise.is
    (IfOk-weaker c.advised_json.result _ _ (λ text line. line.0) (rw c.is_found-found.ensures at c.advised_json.ensures))

pub returns-in-Explain : goal.returns-in-Explain
returns-in-Explain g c =
    rw c.in-Explain.is
    (IfOk-weaker c.explained_json.result _ _ (λ text line. line.0) (rw c.is_found-found.ensures at c.explained_json.ensures))
