-- What has been read, and what the rest gives, are what the whole gives.
use Rattle.std.proofs.Common.{◌≡◌, map, drop}
use Rattle.arguments.specs.UserWords.{ids_at}
use Rattle.arguments.proofs.UserWordLaws.{with_front}
use Rattle.arguments.proofs.request.all_of.Given as goal

abbrev pub invariant-loop-word : goal.invariant-loop-word
invariant-loop-word l =
    with_front l.numbers.items (ids_at (map (λ word. word.now) (drop l.word-index l.words))) ≡ ids_at (map (λ word. word.now) l.words)
