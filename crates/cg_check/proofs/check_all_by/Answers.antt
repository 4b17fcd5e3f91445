use Rattle.std.proofs.Common.{rules, refl, sym}
use Rattle.cg_check.proofs.AllContained.{fault-gives, pair-gives, err-gives, are-contained}
use Rattle.cg_check.proofs.check_all_by.Goals as goal

pub returns-in-Some-clause-answer : goal.returns-in-Some-clause-answer
returns-in-Some-clause-answer g c = search (rules, fault-gives)

pub returns-in_default-first_unguarded-clause-contained :
    goal.returns-in_default-first_unguarded-clause-contained
returns-in_default-first_unguarded-clause-contained g c is some =
    are-contained (g.H.Hierarchy.state c.args.tree.now) c.args.users.now c.args.subtrees.now (sym c.in_default.ensures.fault)
    (c.in_default.ensures.formed refl) c.in_default-first_unguarded.ensures some

pub returns-clause-answer : goal.returns-clause-answer
returns-clause-answer g c =
    pair-gives (g.H.Hierarchy.state c.args.tree.now) c.args.users.now c.args.subtrees.now
    (c.in-Some-first_unguarded.user, c.in-Some-first_unguarded.subtree) c.index-users-user.result c.index-subtrees-subtree.result
    (sym c.in_default.ensures.fault) c.in-Some-first_unguarded.ensures c.index-users-user.is c.index-subtrees-subtree.is
    c.in_ok-answer.answer c.in_ok-answer.ensures.answer

pub returns-in_err-answer-clause-answer : goal.returns-in_err-answer-clause-answer
returns-in_err-answer-clause-answer g c =
    err-gives (g.H.Hierarchy.state c.args.tree.now) c.args.users.now c.args.subtrees.now
    (c.in-Some-first_unguarded.user, c.in-Some-first_unguarded.subtree) c.index-users-user.result c.index-subtrees-subtree.result
    (sym c.in_default.ensures.fault) c.in-Some-first_unguarded.ensures c.index-users-user.is c.index-subtrees-subtree.is
    c.in_err-answer.field-0.0 c.from_residual.result c.in_err-answer.ensures.answer c.from_residual.ensures
