use Rattle.std.proofs.Common.{inl}
use Rattle.commands.proofs.on_tree.MayOnTree.answer.Goals as goal

pub returns-in-Lines-clause-answer : goal.returns-in-Lines-clause-answer
returns-in-Lines-clause-answer g c =
    let said = rw (c.ids-user.ensures.uid, c.ids-user.ensures.gids) at c.may_bytes.ensures.report in rw c.in-Lines.is (inl said)

pub returns-in-Json-clause-answer : goal.returns-in-Json-clause-answer
returns-in-Json-clause-answer g c =
    let said = rw (c.ids-user.ensures.uid, c.ids-user.ensures.gids) at c.may_json_bytes.ensures.report in rw c.in-Json.is (inl said)
