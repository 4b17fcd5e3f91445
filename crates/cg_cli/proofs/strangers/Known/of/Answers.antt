use Rattle.std.proofs.Common.{◌∙◌, ap, refl}
use Rattle.std.specs.FinMap as finmap
use Rattle.cg_cli.specs.Strangers.{tree_entries, all_owners}
use Rattle.cg_cli.proofs.StrangerLaws.{left_all, left_less, left_none}
use Rattle.cg_cli.proofs.strangers.Known.of.Goals as goal

pub loop-pid-init : goal.loop-pid-init
loop-pid-init c =
    left_all (λ row. row.1.uid) c.in_ok-known.known (tree_entries c.args.tree.now) (finmap.entries c.args.tree.now.live)
    c.into_iter-pid-iterator.result c.in_ok-known.ensures
    (c.into_iter-pid-iterator.ensures.into_iter_gives ∙ c.iter-pid-items.ensures
    ∙ ap (λ live. finmap.entries live) c.processes.ensures.live)

pub loop-pid-preserved : goal.loop-pid-preserved
loop-pid-preserved c =
    left_less (λ row. row.1.uid) c.loop-pid.known _ (tree_entries c.args.tree.now) (all_owners c.args.tree.now) c.loop-pid._pid-iterator
    c.next.new.self (c.in-Some._pid.now, c.in-Some.process.now) c.in-Some.ensures.steps c.loop-pid.invariant
    (λ uid. c.in_ok-insert.ensures.updates.0 uid) refl

pub returns : goal.returns
returns c =
    left_none (λ row. row.1.uid) c.loop-pid.known (tree_entries c.args.tree.now) (all_owners c.args.tree.now) c.loop-pid._pid-iterator
    c.in-None.ensures.steps.0 c.loop-pid.invariant
