-- What has been read, and what the rest gives, are what the whole gives. The rest gets shorter.
use Rattle.std.proofs.Common.{◌≡◌, length}
use Rattle.std.specs.List.{slice_split}
use denote.Text.{Utf8}
use denote.Shadow.{shadow}
use Rattle.cg_lines.specs.LineReading.{is_space, changes_at}
use Rattle.cg_lines.proofs.LineChanges.{with_front}
use Rattle.cg_lines.proofs.lines.operations.changes_of.Given as goal

abbrev pub invariant-loop-word : goal.invariant-loop-word
invariant-loop-word l =
    shadow (Utf8 l.rest)
    × (with_front l.changes (changes_at l.vocabulary (slice_split is_space l.rest))
    ≡ changes_at l.vocabulary (slice_split is_space l.words))

abbrev pub decreases-loop-word : goal.decreases-loop-word
decreases-loop-word l = length l.rest
