use Rattle.std.proofs.Common.{◌≡◌, ◌++◌, take}
use Rattle.std.specs.List.{flat_map}
use Rattle.cg_explain.specs.ExplainLines.{asked_line}
use Rattle.cg_explain.proofs.pair.push_asked.Given as goal

abbrev pub invariant-loop-asked : goal.invariant-loop-asked
invariant-loop-asked l = l.text.items ≡ l.fn.text.items ++ flat_map (asked_line l.subtree) (take l.asked-index l.row)
