-- What has been read, and what the rest gives, are what the whole gives.
use Rattle.std.proofs.Common.{◌≡◌, map, drop}
use Rattle.arguments.specs.UserWords.{all_read, group_at}
use Rattle.arguments.specs.Given.{listed_group}
use Rattle.arguments.proofs.UserWordLaws.{with_front}
use Rattle.arguments.proofs.everyone.groups_of.Given as goal

abbrev pub invariant-loop-word : goal.invariant-loop-word
invariant-loop-word l =
    with_front (map listed_group l.groups.items) (all_read group_at (map (λ word. word.now) (drop l.word-index l.words)))
    ≡ all_read group_at (map (λ word. word.now) l.words)
