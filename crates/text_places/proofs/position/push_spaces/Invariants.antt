-- The spaces so far.
use Rattle.std.proofs.Common.{◌≡◌, ◌++◌, replicate, string_bytes}
use Rattle.text_places.proofs.position.push_spaces.Given as goal

abbrev pub invariant-loop-done : goal.invariant-loop-done
invariant-loop-done l = string_bytes l.out ≡ string_bytes l.initial.out ++ replicate l._done 32
