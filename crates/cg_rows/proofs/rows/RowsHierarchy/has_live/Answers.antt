use Rattle.std.proofs.Common.{ap, take, ◌∙◌}
use Rattle.cg_model.specs.States.{has_live}
use Rattle.cg_rows.proofs.rows.RowsHierarchy.has_live.Goals as goal

pub returns : goal.returns
returns c = c.any_at.ensures ∙ ap (λ s. has_live s (take c.args.len c.args.path.now)) c.self.view_is
