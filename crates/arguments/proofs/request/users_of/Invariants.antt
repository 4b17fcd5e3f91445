-- What has been read, and what the rest gives, are what the whole gives.
use Rattle.std.proofs.Common.{◌≡◌, map, drop}
use Rattle.arguments.specs.UserWords.{all_read, user_at}
use Rattle.arguments.specs.Given.{ids_of}
use Rattle.arguments.proofs.UserWordLaws.{with_front}
use Rattle.arguments.proofs.request.users_of.Given as goal

abbrev pub invariant-loop-word : goal.invariant-loop-word
invariant-loop-word l =
    with_front (map ids_of l.users.items) (all_read user_at (map (λ word. word.now) (drop l.word-index l.words)))
    ≡ all_read user_at (map (λ word. word.now) l.words)
