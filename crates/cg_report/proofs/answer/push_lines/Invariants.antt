use Rattle.std.proofs.Common.{◌≡◌, ◌++◌, take}
use Rattle.cg_report.specs.AnswerLines.{op_lines}
use Rattle.cg_report.proofs.answer.push_lines.Given as goal

abbrev pub invariant-loop-op : goal.invariant-loop-op
invariant-loop-op l = l.text.items ≡ l.fn.text.items ++ op_lines (take l.op-index l.ops)
