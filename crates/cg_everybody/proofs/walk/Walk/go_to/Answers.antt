use Rattle.std.proofs.Common.{◌∙◌}
use Rattle.cg_everybody.specs.Everybody.{everybody_of}
use Rattle.cg_everybody.proofs.walk.Walk.go_to.Goals as goal

pub push_doors-requires-clause-found : goal.push_doors-requires-clause-found
push_doors-requires-clause-found g c =
    c.keep_above.ensures
    ∙ c.shared_with-shared.ensures.doors (g.H.Hierarchy.state c.args.tree.now) (everybody_of c.args.asked.now) c.requires
