use Rattle.std.proofs.Common.{true, false, is_some, refl, sym, ap, ◌∙◌}
use Rattle.cg_model.proofs.BrokenLaws.{start-broken}
use Rattle.cg_runs.proofs.broken.broken_at_start.Goals as goal

pub returns-then-not-fits_descendants : goal.returns-then-not-fits_descendants
returns-then-not-fits_descendants g c =
    search (start-broken (g.H.Hierarchy.state c.args.tree.now) c.args.subtree.now false _ (ap is_some c.requires)
    (sym c.if-not-fits_descendants.true ∙ c.fits_descendants.ensures) refl)

pub returns-then-not-fits_depth : goal.returns-then-not-fits_depth
returns-then-not-fits_depth g c =
    search (start-broken (g.H.Hierarchy.state c.args.tree.now) c.args.subtree.now true false (ap is_some c.requires)
    (sym c.if-not-fits_descendants.false ∙ c.fits_descendants.ensures) (sym c.if-not-fits_depth.true ∙ c.fits_depth.ensures))

pub returns : goal.returns
returns g c =
    search (start-broken (g.H.Hierarchy.state c.args.tree.now) c.args.subtree.now true true (ap is_some c.requires)
    (sym c.if-not-fits_descendants.false ∙ c.fits_descendants.ensures) (sym c.if-not-fits_depth.false ∙ c.fits_depth.ensures))
