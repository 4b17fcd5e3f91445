-- The word of this turn says its number.
use Rattle.std.proofs.Common.{List, ℕ, ◌+◌, Bor, [], map, drop, get_or, ap, sym, ◌∙◌}
use Rattle.arguments.specs.UserWords.{id_at, ids_at}
use Rattle.arguments.proofs.UserWordLaws.{with_front, ok_or_some}
use Rattle.arguments.proofs.GivenLaws.{read_more, words_from}
use Rattle.arguments.proofs.request.all_of.Goals as goal

pub loop-word-preserved : goal.loop-word-preserved
loop-word-preserved c =
    let words : List (Bor (List ℕ)) = c.args.words.now in
    let i : ℕ = c.loop-word.word-index in
    let none : Bor (List ℕ) = record { ref_ptr = (0, 0); now = [] } in
    let at = words_from {B = Bor (List ℕ)} (λ word. word.now) words i none c.loop-word-test.true in
    let front = c.loop-word.numbers.items in
    rw c.in_ok-push.ensures.items
    (read_more id_at front (get_or words i none).now (map (λ word. word.now) (drop (i + 1) words)) c.in_ok-id_of.field-0 _
    (ok_or_some _ _ _ c.in_ok-id_of.ensures)
    (ap (λ (ws : List (List ℕ)). with_front front (ids_at ws)) (sym at) ∙ c.loop-word.invariant))
