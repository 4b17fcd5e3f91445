use Rattle.std.proofs.Common.{take, ◌∙◌}
use Rattle.cg_cgroup.proofs.PathNames.{IsPath-take}
use Rattle.cg_places.proofs.Depths.{deepest_is}
use Rattle.cg_places.proofs.path_index.PathIndex.depth_below.Goals as goal

pub returns : goal.returns
returns c =
    c.deepest_text.ensures.deepest
    ∙ deepest_is (take c.args.len c.args.path.now) c.self.inside.numbers.entries c.args.self.now c.front.result.now c.self.view_is
    c.front.ensures.text (IsPath-take c.args.path.now c.args.len c.front.ensures.path) c.self.invariant c.deepest_text.ensures.ordered
