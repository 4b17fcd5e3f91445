use Rattle.cg_cli.proofs.AdviseReports.{pairs_more}
use Rattle.cg_cli.proofs.advise.all_pairs.Goals as goal

pub loop-user-preserved : goal.loop-user-preserved
loop-user-preserved c =
    pairs_more c.args.users.now c.args.subtrees.now c.loop-user.user-index c.user-item.result _ _ c.loop-user-test.true c.user-item.is
    c.loop-user.invariant c.in_ok-push_pairs.ensures
