use Rattle.std.proofs.Common.{ap, take, ◌∙◌}
use Rattle.cg_model.specs.States.{count_below}
use Rattle.cg_model.specs.WellFormed.{has_row}
use Rattle.cg_indexed.proofs.indexed.IndexedHierarchy.count_below.Goals as goal

pub count_below-requires-clause-there : goal.count_below-requires-clause-there
count_below-requires-clause-there c = ap (λ s. has_row s (take c.args.len c.args.path.now)) c.self.view_is ∙ c.requires.there

pub returns : goal.returns
returns c = c.count_below.ensures ∙ ap (λ s. count_below s (take c.args.len c.args.path.now)) c.self.view_is
