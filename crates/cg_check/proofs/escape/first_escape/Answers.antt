use Rattle.std.proofs.Common.{sym, ap, ◌∙◌, Some}
use Rattle.cg_check.proofs.Escaping.{unbroken-fits, escape-over}
use Rattle.cg_check.proofs.escape.first_escape.Goals as goal

pub returns-then-is_over : goal.returns-then-is_over
returns-then-is_over g c =
    ap Some c.new.ensures
    ∙ sym (escape-over (g.H.Hierarchy.state c.args.tree.now) c.args.user.now c.args.subtree.now (sym c.is_over.ensures ∙ c.if-is_over.true))

pub first_unbroken_escape-requires-clause-unbroken : goal.first_unbroken_escape-requires-clause-unbroken
first_unbroken_escape-requires-clause-unbroken g c =
    unbroken-fits (g.H.Hierarchy.state c.args.tree.now) c.args.subtree.now c.requires.subtree (sym c.is_over.ensures ∙ c.if-is_over.false)
