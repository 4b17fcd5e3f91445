use Rattle.std.proofs.Common.{ap, subst, take, ◌∙◌}
use Rattle.cg_model.specs.States.{row_at}
use Rattle.cg_model.specs.WellFormed.{IsWellFormed}
use Rattle.cg_indexed.proofs.indexed.IndexedHierarchy.get.Goals as goal

pub returns-clause-row : goal.returns-clause-row
returns-clause-row c = c.get.ensures ∙ ap (λ s. row_at s (take c.args.len c.args.path.now)) c.self.view_is

pub returns-clause-formed : goal.returns-clause-formed
returns-clause-formed c = subst IsWellFormed c.self.view_is c.self.invariant.formed
