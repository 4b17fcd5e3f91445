-- The bytes so far, as they are shown, which still leave room.
use Rattle.std.proofs.Common.{◌≡◌, ◌≤◌, length, take, string_bytes}
use Rattle.text_places.specs.Shown.{shown}
use Rattle.text_places.proofs.shown.quoted.Given as goal

abbrev pub invariant-loop-byte : goal.invariant-loop-byte
invariant-loop-byte l = (string_bytes l.quote ≡ shown (take l.byte-index l.byte-items)) × (length (string_bytes l.quote) ≤ 200)
