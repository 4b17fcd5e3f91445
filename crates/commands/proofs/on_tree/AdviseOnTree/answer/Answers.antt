use Rattle.std.proofs.Common.{inl}
use Rattle.commands.proofs.on_tree.AdviseOnTree.answer.Goals as goal

pub returns-in-Lines-false-clause-answer : goal.returns-in-Lines-false-clause-answer
returns-in-Lines-false-clause-answer g c =
    let said = rw (c.as_slice-subtrees.ensures.value, c.as_slice-users.ensures.value, c.in_ok-users.ensures.ids, c.as_slice.ensures.value)
    at c.advise_bytes.ensures.report in rw (c.in-Lines-false.is-0, c.in-Lines-false.is-1) (inl said)

pub returns-in-Lines-true-clause-answer : goal.returns-in-Lines-true-clause-answer
returns-in-Lines-true-clause-answer g c =
    let said = rw (c.as_slice-subtrees.ensures.value, c.as_slice-users.ensures.value, c.in_ok-users.ensures.ids, c.as_slice.ensures.value)
    at c.advise_settled_bytes.ensures.report in rw (c.in-Lines-true.is-0, c.in-Lines-true.is-1) (inl said)

pub returns-in-Json-false-clause-answer : goal.returns-in-Json-false-clause-answer
returns-in-Json-false-clause-answer g c =
    let said = rw (c.as_slice-subtrees.ensures.value, c.as_slice-users.ensures.value, c.in_ok-users.ensures.ids, c.as_slice.ensures.value)
    at c.advise_json_bytes.ensures.report in rw (c.in-Json-false.is-0, c.in-Json-false.is-1) (inl said)

pub returns-clause-answer : goal.returns-clause-answer
returns-clause-answer g c =
    let said = rw (c.as_slice-subtrees.ensures.value, c.as_slice-users.ensures.value, c.in_ok-users.ensures.ids, c.as_slice.ensures.value)
    at c.advise_settled_json_bytes.ensures.report in rw (c.in-Json-true.is-0, c.in-Json-true.is-1) (inl said)
