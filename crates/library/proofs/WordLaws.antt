-- The words of a text, by where it is cut.
use Rattle.std.proofs.Common.{◌≡◌, ◌<◌, ◌==◌, ℕ, List, [], ◌∷◌, length, MatchOption, Option, Some, None, Bor, ap, ◌∙◌, sym, arith, Bool}
use Rattle.std.specs.List.{position_or_len, before_first, after_first}
use Rattle.std.proofs.lemmas.List.Sums.{fails_before_first}
use Rattle.std.proofs.lemmas.List.Splits.{slice_split_none, slice_split_first}
use Rattle.library.specs.Calls.{pieces_in}

abbrev pub is_newline : ℕ → Bool
is_newline b = b == 10

-- where a text is cut at its first newline its words are that before it and those behind it, and else it is a word
pub words_by : (text : List ℕ) (cut : Option (Bor (List ℕ) × Bor (List ℕ)))
    → MatchOption cut (position_or_len is_newline text ≡ length text) (λ parts. (parts.0.now ≡ before_first is_newline text)
    × (parts.1.now ≡ after_first is_newline text) × (position_or_len is_newline text < length text))
    → MatchOption cut (pieces_in text ≡ text ∷ []) (λ parts. pieces_in text ≡ parts.0.now ∷ pieces_in parts.1.now)
words_by text None whole = slice_split_none is_newline text (λ k d s. fails_before_first is_newline text k d (omega (arith, whole)))
words_by text (Some parts) at =
    slice_split_first is_newline text 0 at.2
    ∙ ap (λ (word : List ℕ). word ∷ pieces_in (after_first is_newline text)) (sym at.0)
    ∙ ap (λ (rest : List ℕ). parts.0.now ∷ pieces_in rest) (sym at.1)
