use Rattle.std.proofs.Common.{sym}
use Rattle.cg_model.proofs.ClauseLaws.{first_some}
use Rattle.cg_ops.proofs.process_events.fork_refusal.Goals as goal

pub returns-in-Some : goal.returns-in-Some
returns-in-Some g c = sym (first_some _ _ _ (sym c.in-Some.ensures))
