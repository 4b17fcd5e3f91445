-- The bytes so far, as they are shown.
use Rattle.std.proofs.Common.{◌≡◌, take, string_bytes}
use Rattle.text_places.specs.Shown.{shown}
use Rattle.text_places.proofs.shown.shown.Given as goal

abbrev pub invariant-loop-byte : goal.invariant-loop-byte
invariant-loop-byte l = string_bytes l.out ≡ shown (take l.byte-index l.bytes)
