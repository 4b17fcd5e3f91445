-- The bytes so far, as they are shown.
use Rattle.std.proofs.Common.{◌≡◌, ◌∷◌, [], ◌++◌, take, string_bytes}
use Rattle.std.specs.List.{flat_map}
use Rattle.text_places.specs.Shown.{shown_within}
use Rattle.text_places.proofs.shown.indented.Given as goal

abbrev pub invariant-loop-byte : goal.invariant-loop-byte
invariant-loop-byte l = string_bytes l.out ≡ (32 ∷ 32 ∷ []) ++ flat_map shown_within (take l.byte-index l.byte-items)
