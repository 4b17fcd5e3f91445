use Rattle.std.proofs.Common.{◌∙◌, ◌++◌, ap, arith, map}
use Rattle.cg_everybody.specs.Everybody.{everybody_of}
use Rattle.cg_everybody.specs.Entrances.{entrance_spot}
use Rattle.cg_everybody.proofs.Entering.{door-place}
use Rattle.cg_everybody.proofs.walk.enter_door.Goals as goal

pub returns : goal.returns
returns g c =
    c.in_ok-enter.ensures
    ∙ ap (λ l. map entrance_spot c.args.found.now.items ++ l)
    (door-place (g.H.Hierarchy.state c.args.tree.now) (everybody_of c.args.asked.now) c.args.subtree.now c.depth-depth.result c.args.len
    c.depth-depth.ensures.depth (omega (arith, c.depth-depth.ensures.depth, c.requires.above)))
