use Rattle.commands.proofs.carried.carried_out.Goals as goal

pub returns-in-Help-clause-answer : goal.returns-in-Help-clause-answer
returns-in-Help-clause-answer g c = rw c.in-Help.is c.shown.ensures

pub returns-in-May-clause-answer : goal.returns-in-May-clause-answer
returns-in-May-clause-answer g c = rw c.in-May.is c.on_tree.ensures.answer

pub returns-in-Check-clause-answer : goal.returns-in-Check-clause-answer
returns-in-Check-clause-answer g c = rw c.in-Check.is c.on_tree-in-Check.ensures.answer

pub returns-in-Settle-clause-answer : goal.returns-in-Settle-clause-answer
returns-in-Settle-clause-answer g c = rw c.in-Settle.is c.on_tree-in-Settle.ensures.answer

pub returns-in-Audit-clause-answer : goal.returns-in-Audit-clause-answer
returns-in-Audit-clause-answer g c = rw c.in-Audit.is c.on_tree-in-Audit.ensures.answer

pub returns-in-Everybody-clause-answer : goal.returns-in-Everybody-clause-answer
returns-in-Everybody-clause-answer g c = rw c.in-Everybody.is c.on_tree-in-Everybody.ensures.answer

pub returns-in-Subtrees-clause-answer : goal.returns-in-Subtrees-clause-answer
returns-in-Subtrees-clause-answer g c = rw c.in-Subtrees.is c.on_subtrees.ensures.answer

pub returns-in-Explain-clause-answer : goal.returns-in-Explain-clause-answer
returns-in-Explain-clause-answer g c = rw c.in-Explain.is c.on_tree-in-Explain.ensures.answer

pub returns-in-Advise-clause-answer : goal.returns-in-Advise-clause-answer
returns-in-Advise-clause-answer g c = rw c.in-Advise.is c.on_tree-in-Advise.ensures.answer

pub returns-in-Upgrade-clause-answer : goal.returns-in-Upgrade-clause-answer
returns-in-Upgrade-clause-answer g c = rw c.in-Upgrade.is c.on_tree-in-Upgrade.ensures.answer

pub returns-in-AdvisePairs-clause-answer : goal.returns-in-AdvisePairs-clause-answer
returns-in-AdvisePairs-clause-answer g c = rw c.in-AdvisePairs.is c.on_pairs.ensures.answer

pub returns-in-AuditPairs-clause-answer : goal.returns-in-AuditPairs-clause-answer
returns-in-AuditPairs-clause-answer g c = rw c.in-AuditPairs.is c.on_pairs-in-AuditPairs.ensures.answer

pub returns-in-ExplainPairs-clause-answer : goal.returns-in-ExplainPairs-clause-answer
returns-in-ExplainPairs-clause-answer g c = rw c.in-ExplainPairs.is c.on_pairs-in-ExplainPairs.ensures.answer

pub returns-in-Replay-clause-answer : goal.returns-in-Replay-clause-answer
returns-in-Replay-clause-answer g c = rw c.in-Replay.is c.replay.ensures.answer

pub returns-in-May-clause-noted : goal.returns-in-May-clause-noted
returns-in-May-clause-noted g c = rw c.in-May.is c.on_tree.ensures.noted

pub returns-in-Check-clause-noted : goal.returns-in-Check-clause-noted
returns-in-Check-clause-noted g c = rw c.in-Check.is c.on_tree-in-Check.ensures.noted

pub returns-in-Settle-clause-noted : goal.returns-in-Settle-clause-noted
returns-in-Settle-clause-noted g c = rw c.in-Settle.is c.on_tree-in-Settle.ensures.noted

pub returns-in-Audit-clause-noted : goal.returns-in-Audit-clause-noted
returns-in-Audit-clause-noted g c = rw c.in-Audit.is c.on_tree-in-Audit.ensures.noted

pub returns-in-Everybody-clause-noted : goal.returns-in-Everybody-clause-noted
returns-in-Everybody-clause-noted g c = rw c.in-Everybody.is c.on_tree-in-Everybody.ensures.noted

pub returns-in-Subtrees-clause-noted : goal.returns-in-Subtrees-clause-noted
returns-in-Subtrees-clause-noted g c = rw c.in-Subtrees.is c.on_subtrees.ensures.noted

pub returns-in-Explain-clause-noted : goal.returns-in-Explain-clause-noted
returns-in-Explain-clause-noted g c = rw c.in-Explain.is c.on_tree-in-Explain.ensures.noted

pub returns-in-Advise-clause-noted : goal.returns-in-Advise-clause-noted
returns-in-Advise-clause-noted g c = rw c.in-Advise.is c.on_tree-in-Advise.ensures.noted

pub returns-in-Upgrade-clause-noted : goal.returns-in-Upgrade-clause-noted
returns-in-Upgrade-clause-noted g c = rw c.in-Upgrade.is c.on_tree-in-Upgrade.ensures.noted

pub returns-in-AdvisePairs-clause-noted : goal.returns-in-AdvisePairs-clause-noted
returns-in-AdvisePairs-clause-noted g c = rw c.in-AdvisePairs.is c.on_pairs.ensures.noted

pub returns-in-AuditPairs-clause-noted : goal.returns-in-AuditPairs-clause-noted
returns-in-AuditPairs-clause-noted g c = rw c.in-AuditPairs.is c.on_pairs-in-AuditPairs.ensures.noted

pub returns-in-ExplainPairs-clause-noted : goal.returns-in-ExplainPairs-clause-noted
returns-in-ExplainPairs-clause-noted g c = rw c.in-ExplainPairs.is c.on_pairs-in-ExplainPairs.ensures.noted

pub returns-in-Replay-clause-noted : goal.returns-in-Replay-clause-noted
returns-in-Replay-clause-noted g c = rw c.in-Replay.is c.replay.ensures.noted
