use Rattle.std.proofs.Common.{ap}
use Rattle.cg_model.specs.States.{State}
use Rattle.cg_rows.proofs.rows.Rows.processes.Goals as goal

pub returns-clause-live : goal.returns-clause-live
returns-clause-live c = ap (λ (s : State). s.live) c.self.view_is

pub returns-clause-used : goal.returns-clause-used
returns-clause-used c = ap (λ (s : State). s.used) c.self.view_is
