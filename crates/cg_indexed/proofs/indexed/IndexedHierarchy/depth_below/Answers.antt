use Rattle.std.proofs.Common.{ap, take, ◌∙◌}
use Rattle.cg_model.specs.States.{depth_below}
use Rattle.cg_indexed.proofs.indexed.IndexedHierarchy.depth_below.Goals as goal

pub returns : goal.returns
returns c = c.depth_below.ensures ∙ ap (λ s. depth_below s (take c.args.len c.args.path.now)) c.self.view_is
