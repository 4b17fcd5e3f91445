-- The line has grown by the changes so far.
use Rattle.std.proofs.Common.{◌≡◌, ◌∷◌, ◌++◌, take}
use Rattle.std.specs.String.{string_bytes}
use Rattle.std.specs.List.{flat_map}
use Rattle.cg_lines.specs.OperationLines.{change_word}
use Rattle.cg_lines.proofs.lines.write.push_changes.Given as goal

abbrev pub invariant-loop-change : goal.invariant-loop-change
invariant-loop-change l =
    string_bytes l.line ≡ string_bytes l.initial.line ++ flat_map (λ change. 32 ∷ change_word change) (take l.change-index l.changes)
