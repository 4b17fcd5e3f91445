use Rattle.std.proofs.Common.{take}
use Rattle.cg_guards.proofs.TableWalk.{guarded_mode}
use Rattle.cg_guards.proofs.table.guarded_entry.Goals as goal

pub returns-clause-mode : goal.returns-clause-mode
returns-clause-mode g c =
    guarded_mode (g.H.Hierarchy.state c.args.tree.now) (take c.in_ok-spot.spot.len c.args.subtree.now) c.in_ok-spot.spot.name
    c.in_ok-entry.entry c.controllers.ensures.formed c.in_ok-entry.ensures
