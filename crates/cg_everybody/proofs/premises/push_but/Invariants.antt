use Rattle.std.proofs.Common.{◌≡◌, ◌++◌, take}
use Rattle.std.specs.List.{flat_map}
use Rattle.std.specs.Prelude.{string_bytes}
use Rattle.cg_everybody.specs.Premises.{but_line}
use Rattle.cg_everybody.proofs.premises.push_but.Given as goal

abbrev pub invariant-loop-uid : goal.invariant-loop-uid
invariant-loop-uid l = string_bytes l.text ≡ string_bytes l.fn.text ++ flat_map but_line (take l.uid-index l.but)
