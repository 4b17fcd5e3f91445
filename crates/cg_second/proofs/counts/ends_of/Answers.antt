use Rattle.std.proofs.Common.{ap, ◌+◌, ◌∙◌, arith, take_all}
use Rattle.cg_model.specs.States.{count_below}
use Rattle.cg_second.proofs.Staying.{row-there, place-is}
use Rattle.cg_second.proofs.Tallies.{ends-more}
use Rattle.cg_second.proofs.counts.ends_of.Goals as goal

pub count_below-below-requires-clause-there : goal.count_below-below-requires-clause-there
count_below-below-requires-clause-there g c =
    row-there (g.H.Hierarchy.state c.args.tree.now) c.args.paths.now c.index-paths-at.result c.loop-at.at c.depth.result c.requires
    c.loop-at-test.true c.index-paths-at.is c.depth.ensures.depth

pub loop-at-preserved : goal.loop-at-preserved
loop-at-preserved g c =
    let st = g.H.Hierarchy.state c.args.tree.now in
    ends-more st c.loop-at.at c.loop-at.ends.items c.push.new.self.items (c.loop-at.at + 1 + c.count_below-below.result)
    c.loop-at.invariant
    (ap (λ n. c.loop-at.at + 1 + n) (c.count_below-below.ensures
    ∙ ap (count_below st) (take_all c.depth.result c.index-paths-at.result (let d = c.depth.ensures.depth in omega (arith, d))
    ∙ place-is st c.args.paths.now c.index-paths-at.result c.loop-at.at c.requires c.loop-at-test.true c.index-paths-at.is)))
    c.in_ok-push.ensures.items
