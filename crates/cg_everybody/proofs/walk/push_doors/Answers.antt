use Rattle.std.proofs.Common.{◌∙◌, ◌++◌, ◌∷◌, [], ap, sym, cond, arith, length, ◌≡◌}
use Rattle.cg_everybody.specs.Everybody.{everybody_of}
use Rattle.cg_everybody.specs.Entrances.{doors, is_door}
use Rattle.cg_everybody.proofs.Entering.{doors-more}
use Rattle.cg_everybody.proofs.walk.push_doors.Goals as goal

pub loop-len-preserved : goal.loop-len-preserved
loop-len-preserved g c =
    let st = g.H.Hierarchy.state c.args.tree.now in
    let asked = everybody_of c.args.asked.now in
    let subtree = c.args.subtree.now in (
      c.in_ok-push_door.ensures
          ∙ ap (λ l. l ++ cond (is_door st asked subtree c.loop-len.len) (c.loop-len.len ∷ []) []) c.loop-len.invariant.0
          ∙ sym (doors-more st asked subtree c.loop-len.len),
      omega (arith, c.depth-len-end.ensures.depth, c.loop-len-test.true),
    )

pub returns : goal.returns
returns g c =
    let st = g.H.Hierarchy.state c.args.tree.now in
    let asked = everybody_of c.args.asked.now in
    let subtree = c.args.subtree.now in
    let all : c.loop-len.len ≡ length subtree =
    omega (arith, c.depth-len-end.ensures.depth, c.loop-len-test.false, c.loop-len.invariant.1) in
    c.loop-len.invariant.0 ∙ ap (doors st asked subtree) all
