use Rattle.std.proofs.Common.{sym, ap, ◌∙◌, Ok}
use Rattle.cg_laws.proofs.RunLaws.{contained-guarded}
use Rattle.cg_check.proofs.Checking.{no_fault, no_failure, guarded-answer, checked-answer, unguarded-gives, unguarded-uncontained}
use Rattle.cg_check.proofs.check.Goals as goal

pub returns-in-None-clause-answer : goal.returns-in-None-clause-answer
returns-in-None-clause-answer g c =
    checked-answer (g.H.Hierarchy.state c.args.tree.now) c.args.user.now c.args.subtree.now (sym c.in_default.is ∙ c.fault_of.ensures.fault)
    ∙ ap Ok (guarded-answer (g.H.Hierarchy.state c.args.tree.now) c.args.user.now c.args.subtree.now
    (no_failure (g.H.Hierarchy.state c.args.tree.now) c.args.user.now c.args.subtree.now (sym c.in-None.is ∙ c.failed_guard.ensures)))

pub returns-in-None-clause-contained : goal.returns-in-None-clause-contained
returns-in-None-clause-contained g c same =
    contained-guarded (g.H.Hierarchy.state c.args.tree.now) c.args.user.now c.args.subtree.now (c.fault_of.ensures.formed c.in_default.is)
    (no_fault (g.H.Hierarchy.state c.args.tree.now) c.args.subtree.now (sym c.in_default.is ∙ c.fault_of.ensures.fault))
    (no_failure (g.H.Hierarchy.state c.args.tree.now) c.args.user.now c.args.subtree.now (sym c.in-None.is ∙ c.failed_guard.ensures))

pub returns-in-Some-failed_guard-clause-answer : goal.returns-in-Some-failed_guard-clause-answer
returns-in-Some-failed_guard-clause-answer g c =
    unguarded-gives (g.H.Hierarchy.state c.args.tree.now) c.args.user.now c.args.subtree.now c.in-Some-failed_guard.failed
    c.unguarded.result
    (sym c.in_default.is ∙ c.fault_of.ensures.fault) (sym c.in-Some-failed_guard.is ∙ c.failed_guard.ensures) c.unguarded.ensures.ok
    c.unguarded.ensures.err

pub returns-in-Some-failed_guard-clause-contained : goal.returns-in-Some-failed_guard-clause-contained
returns-in-Some-failed_guard-clause-contained g c =
    unguarded-uncontained (g.H.Hierarchy.state c.args.tree.now) c.args.user.now c.args.subtree.now c.in-Some-failed_guard.failed
    c.unguarded.result
    (sym c.in-Some-failed_guard.is ∙ c.failed_guard.ensures) c.unguarded.ensures.ok
