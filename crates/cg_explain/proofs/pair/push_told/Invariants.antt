use Rattle.std.proofs.Common.{◌≡◌, ◌++◌, take}
use Rattle.std.specs.List.{flat_map}
use Rattle.cg_explain.specs.ExplainLines.{told_line}
use Rattle.cg_explain.proofs.pair.push_told.Given as goal

abbrev pub invariant-loop-told : goal.invariant-loop-told
invariant-loop-told l = l.text.items ≡ l.fn.text.items ++ flat_map (told_line l.subtree) (take l.told-index l.row)
