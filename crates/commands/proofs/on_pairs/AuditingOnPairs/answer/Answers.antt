use Rattle.commands.proofs.on_pairs.AuditingOnPairs.answer.Goals as goal

pub returns-in-Lines : goal.returns-in-Lines
returns-in-Lines g c = rw c.in-Lines.is c.audit_pairs_bytes.ensures.report

pub returns-in-Json : goal.returns-in-Json
returns-in-Json g c = rw c.in-Json.is c.audit_pairs_json_bytes.ensures.report
