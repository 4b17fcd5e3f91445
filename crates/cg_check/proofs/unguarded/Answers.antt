use Rattle.std.proofs.Common.{sym, ◌∙◌}
use Rattle.cg_check.proofs.Checking.{escapes-answer, unsettled-answer}
use Rattle.cg_check.proofs.unguarded.Goals as goal

pub returns-in-Ok-Some-clause-ok : goal.returns-in-Ok-Some-clause-ok
returns-in-Ok-Some-clause-ok g c =
    escapes-answer (g.H.Hierarchy.state c.args.tree.now) c.args.user.now c.args.subtree.now c.args.failed c.requires.failed c.in-Ok-Some.ops
    (sym c.in-Ok-Some.field-0-is ∙ c.in-Ok-Some.ensures)

pub returns-in-Ok-None-clause-ok : goal.returns-in-Ok-None-clause-ok
returns-in-Ok-None-clause-ok g c =
    unsettled-answer (g.H.Hierarchy.state c.args.tree.now) c.args.user.now c.args.subtree.now c.args.failed c.requires.failed
    (sym c.in-Ok-None.field-0-is ∙ c.in-Ok-None.ensures)
