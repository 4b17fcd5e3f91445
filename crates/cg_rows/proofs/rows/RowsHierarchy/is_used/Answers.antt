use Rattle.std.proofs.Common.{ap, ◌∙◌}
use Rattle.cg_model.specs.States.{is_used}
use Rattle.cg_rows.proofs.rows.RowsHierarchy.is_used.Goals as goal

pub returns : goal.returns
returns c = c.is_used.ensures ∙ ap (λ s. is_used s c.args.pid) c.self.view_is
