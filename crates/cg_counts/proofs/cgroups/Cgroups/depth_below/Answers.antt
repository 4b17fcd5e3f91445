use Rattle.std.proofs.Common.{ap, sym, take, ◌∙◌}
use Rattle.cg_places.specs.Levels.{deepest}
use Rattle.cg_counts.proofs.Read.{paths_are}
use Rattle.cg_counts.proofs.cgroups.Cgroups.depth_below.Goals as goal

pub returns : goal.returns
returns c =
    c.depth_below.ensures ∙ ap (deepest (take c.args.len c.args.path.now))
    (sym (paths_are c.self.inside.places c.self.inside.nodes c.args.self.now c.self.view_is))
