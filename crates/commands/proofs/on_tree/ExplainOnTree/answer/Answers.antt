use Rattle.std.proofs.Common.{inl}
use Rattle.commands.proofs.on_tree.ExplainOnTree.answer.Goals as goal

pub returns-in-Lines-clause-answer : goal.returns-in-Lines-clause-answer
returns-in-Lines-clause-answer g c =
    let said = rw (c.as_slice-subtrees.ensures.value, c.as_slice-users.ensures.value, c.in_ok-users.ensures.ids, c.as_slice.ensures.value)
    at c.explain_bytes.ensures.report in rw c.in-Lines.is (inl said)

pub returns-clause-answer : goal.returns-clause-answer
returns-clause-answer g c =
    let said = rw (c.as_slice-subtrees.ensures.value, c.as_slice-users.ensures.value, c.in_ok-users.ensures.ids, c.as_slice.ensures.value)
    at c.explain_json_bytes.ensures.report in rw c.in-Json.is (inl said)
