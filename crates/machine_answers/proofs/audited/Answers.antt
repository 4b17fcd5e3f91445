use Rattle.machine_answers.proofs.AuditedLaws.{audited_in, all_audited_in}
use Rattle.machine_answers.proofs.audited.Goals as goal

pub returns : goal.returns
returns c = record { first = audited_in; all = all_audited_in }
