-- What has been read, and what the rest gives, are what the whole gives. The rest gets shorter.
use Rattle.std.proofs.Common.{◌≡◌, length}
use Rattle.std.specs.List.{slice_split}
use denote.Text.{Utf8}
use denote.Shadow.{shadow}
use Rattle.arguments.specs.UserWords.{is_comma, ids_at}
use Rattle.arguments.proofs.UserWordLaws.{with_front}
use Rattle.arguments.proofs.named_user.ids_of.Given as goal

abbrev pub invariant-loop-word : goal.invariant-loop-word
invariant-loop-word l =
    shadow (Utf8 l.rest)
    × (with_front l.ids.items (ids_at (slice_split is_comma l.rest)) ≡ ids_at (slice_split is_comma l.words))

abbrev pub decreases-loop-word : goal.decreases-loop-word
decreases-loop-word l = length l.rest
