use Rattle.std.proofs.Common.{ap, ◌∙◌, map}
use Rattle.cg_advice.specs.Ways.{pair_of}
use Rattle.cg_advice.proofs.Gathering.{map-append}
use Rattle.cg_cli.proofs.AdviseReports.{subtrees_more}
use Rattle.cg_cli.proofs.advise.push_pairs.Goals as goal

pub loop-subtree-preserved : goal.loop-subtree-preserved
loop-subtree-preserved c =
    subtrees_more c.args.user.now c.args.subtrees.now c.loop-subtree.subtree-index c.subtree-item.result
    (map pair_of c.args.pairs.now.items)
    (map pair_of c.loop-subtree.pairs.items) _ c.loop-subtree-test.true c.subtree-item.is c.loop-subtree.invariant
    (ap (map pair_of) c.in_ok-push.ensures.items ∙ map-append pair_of c.loop-subtree.pairs.items _)
