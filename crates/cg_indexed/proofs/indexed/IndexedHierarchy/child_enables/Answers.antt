use Rattle.std.proofs.Common.{ap, take, ◌∙◌}
use Rattle.cg_model.specs.States.{child_enables}
use Rattle.cg_model.specs.WellFormed.{has_row}
use Rattle.cg_indexed.proofs.indexed.IndexedHierarchy.child_enables.Goals as goal

pub child_enables-requires-clause-there : goal.child_enables-requires-clause-there
child_enables-requires-clause-there c = ap (λ s. has_row s (take c.args.len c.args.path.now)) c.self.view_is ∙ c.requires.there

pub returns : goal.returns
returns c = c.child_enables.ensures ∙ ap (λ s. child_enables s (take c.args.len c.args.path.now) c.args.controller) c.self.view_is
