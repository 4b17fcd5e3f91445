-- The word of this turn says which group it is.
use Rattle.std.proofs.Common.{List, [], ℕ, ◌+◌, Bor, map, drop, get_or, ap, sym, ◌∙◌}
use Rattle.std.proofs.lemmas.List.{map-append}
use Rattle.arguments.specs.UserWords.{all_read, group_at}
use Rattle.arguments.specs.Given.{listed_group}
use Rattle.arguments.proofs.UserWordLaws.{with_front}
use Rattle.arguments.proofs.GivenLaws.{read_more, words_from}
use Rattle.arguments.proofs.everyone.groups_of.Goals as goal

pub loop-word-preserved : goal.loop-word-preserved
loop-word-preserved c =
    let words : List (Bor (List ℕ)) = c.args.words.now in
    let i : ℕ = c.loop-word.word-index in
    let none : Bor (List ℕ) = record { ref_ptr = (0, 0); now = [] } in
    let front = map listed_group c.loop-word.groups.items in
    let at = words_from {B = Bor (List ℕ)} (λ word. word.now) words i none c.loop-word-test.true in
    let more =
    read_more group_at front (get_or words i none).now (map (λ word. word.now) (drop (i + 1) words)) (listed_group
    c.in_ok-from_word.field-0) _
    c.in_ok-from_word.ensures
    (ap (λ (ws : List (List ℕ)). with_front front (all_read group_at ws)) (sym at) ∙ c.loop-word.invariant) in
    rw (c.in_ok-push.ensures.items, map-append) more
