use Rattle.std.proofs.Common.{inl}
use Rattle.commands.proofs.on_tree.AuditOnTree.answer.Goals as goal

pub returns-in-Lines-false-false-clause-answer : goal.returns-in-Lines-false-false-clause-answer
returns-in-Lines-false-false-clause-answer g c =
    let said = rw (c.as_slice-subtrees.ensures.value, c.as_slice-users.ensures.value, c.in_ok-users.ensures.ids, c.as_slice.ensures.value)
    at c.audit_bytes.ensures.report in
    rw (c.in-Lines-false-false.is-0, c.in-Lines-false-false.is-1, c.in-Lines-false-false.is-2) (inl said)

pub returns-in-Lines-false-true-clause-answer : goal.returns-in-Lines-false-true-clause-answer
returns-in-Lines-false-true-clause-answer g c =
    let said = rw (c.as_slice-subtrees.ensures.value, c.as_slice-users.ensures.value, c.in_ok-users.ensures.ids, c.as_slice.ensures.value)
    at c.audit_all_bytes.ensures.report in
    rw (c.in-Lines-false-true.is-0, c.in-Lines-false-true.is-1, c.in-Lines-false-true.is-2) (inl said)

pub returns-in-Lines-true-false-clause-answer : goal.returns-in-Lines-true-false-clause-answer
returns-in-Lines-true-false-clause-answer g c =
    let said = rw (c.as_slice-subtrees.ensures.value, c.as_slice-users.ensures.value, c.in_ok-users.ensures.ids, c.as_slice.ensures.value)
    at c.audit_settled_bytes.ensures.report in
    rw (c.in-Lines-true-false.is-0, c.in-Lines-true-false.is-1, c.in-Lines-true-false.is-2) (inl said)

pub returns-in-Lines-true-true-clause-answer : goal.returns-in-Lines-true-true-clause-answer
returns-in-Lines-true-true-clause-answer g c =
    let said = rw (c.as_slice-subtrees.ensures.value, c.as_slice-users.ensures.value, c.in_ok-users.ensures.ids, c.as_slice.ensures.value)
    at c.audit_all_settled_bytes.ensures.report in
    rw (c.in-Lines-true-true.is-0, c.in-Lines-true-true.is-1, c.in-Lines-true-true.is-2) (inl said)

pub returns-in-Json-false-false-clause-answer : goal.returns-in-Json-false-false-clause-answer
returns-in-Json-false-false-clause-answer g c =
    let said = rw (c.as_slice-subtrees.ensures.value, c.as_slice-users.ensures.value, c.in_ok-users.ensures.ids, c.as_slice.ensures.value)
    at c.audit_json_bytes.ensures.report in
    rw (c.in-Json-false-false.is-0, c.in-Json-false-false.is-1, c.in-Json-false-false.is-2) (inl said)

pub returns-in-Json-false-true-clause-answer : goal.returns-in-Json-false-true-clause-answer
returns-in-Json-false-true-clause-answer g c =
    let said = rw (c.as_slice-subtrees.ensures.value, c.as_slice-users.ensures.value, c.in_ok-users.ensures.ids, c.as_slice.ensures.value)
    at c.audit_all_json_bytes.ensures.report in
    rw (c.in-Json-false-true.is-0, c.in-Json-false-true.is-1, c.in-Json-false-true.is-2) (inl said)

pub returns-in-Json-true-false-clause-answer : goal.returns-in-Json-true-false-clause-answer
returns-in-Json-true-false-clause-answer g c =
    let said = rw (c.as_slice-subtrees.ensures.value, c.as_slice-users.ensures.value, c.in_ok-users.ensures.ids, c.as_slice.ensures.value)
    at c.audit_settled_json_bytes.ensures.report in
    rw (c.in-Json-true-false.is-0, c.in-Json-true-false.is-1, c.in-Json-true-false.is-2) (inl said)

pub returns-clause-answer : goal.returns-clause-answer
returns-clause-answer g c =
    let said = rw (c.as_slice-subtrees.ensures.value, c.as_slice-users.ensures.value, c.in_ok-users.ensures.ids, c.as_slice.ensures.value)
    at c.audit_all_settled_json_bytes.ensures.report in
    rw (c.in-Json-true-true.is-0, c.in-Json-true-true.is-1, c.in-Json-true-true.is-2) (inl said)
