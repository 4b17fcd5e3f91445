use Rattle.std.proofs.Common.{sym, ◌∙◌}
use Rattle.cg_second.proofs.Untold.{beyond_spared}
use Rattle.cg_second.proofs.reach.spares_beyond.Goals as goal

pub returns-then-spares_untold : goal.returns-then-spares_untold
returns-then-spares_untold g c =
    sym (beyond_spared (g.H.Hierarchy.state c.args.tree.now) c.args.users.now c.args.path.now
    (sym c.spares_untold.ensures ∙ c.if-spares_untold.true))
