-- The words so far, and those of the rest, are those of the whole. The rest gets shorter.
use Rattle.std.proofs.Common.{◌≡◌, ◌++◌, map, string_bytes, length}
use denote.Text.{Utf8}
use denote.Shadow.{shadow}
use Rattle.library.specs.Calls.{pieces_in, words_in}
use Rattle.library.proofs.words.words_of.Given as goal

abbrev pub invariant-loop-word : goal.invariant-loop-word
invariant-loop-word l = shadow (Utf8 l.rest) × (map string_bytes l.words.items ++ pieces_in l.rest ≡ words_in l.lines)

abbrev pub decreases-loop-word : goal.decreases-loop-word
decreases-loop-word l = length l.rest
