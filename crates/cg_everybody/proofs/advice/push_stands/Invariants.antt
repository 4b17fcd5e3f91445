use Rattle.std.proofs.Common.{◌≡◌, ◌++◌, take}
use Rattle.std.specs.List.{flat_map}
use Rattle.cg_advice.specs.Found.{stand_let}
use Rattle.cg_everybody.specs.Advice.{let_lines}
use Rattle.cg_everybody.proofs.advice.push_stands.Given as goal

abbrev pub invariant-loop-stand : goal.invariant-loop-stand
invariant-loop-stand l =
    l.text.items ≡ l.fn.text.items ++ flat_map (λ stand. let_lines (stand_let stand)) (take l.stand-index l.stands)
