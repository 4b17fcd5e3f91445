-- What a key takes is what its clause takes, of each value and so of this one.
use Rattle.std.proofs.Common.{sym, ap, ◌∙◌}
use Rattle.toml.specs.View.{view}
use Rattle.cg_text.specs.Keys.{takes_as}
use Rattle.cg_text.proofs.tree.form.takes_flat.Goals as goal

pub returns-in-None : goal.returns-in-None
returns-in-None c =
    sym (ap (λ found. takes_as found (view c.args.value.now)) c.in-None.is) ∙ c.flat_takes.ensures (view c.args.value.now)

pub returns-in-Some : goal.returns-in-Some
returns-in-Some c =
    c.fits.ensures ∙ sym (ap (λ found. takes_as found (view c.args.value.now)) c.in-Some.is) ∙ c.flat_takes.ensures (view c.args.value.now)
