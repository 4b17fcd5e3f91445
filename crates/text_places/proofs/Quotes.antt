-- A quote that was cut.
use Rattle.std.proofs.Common.{◌≡◌, ℕ, ◌+◌, ◌<◌, ◌≤◌, List, [], ◌++◌, cond, nat_lt, length, take, get_or, sym, ap, arith, ◌∙◌, length-append}
use Rattle.std.proofs.lemmas.List.Folds.{length-flat_map-take}
use Rattle.std.proofs.lemmas.Bool.Decides.{nat_tests}
use Rattle.text_places.specs.Shown.{shown_byte, shown, dots, IsQuoteOf}

dots_where_cut : (kept all : ℕ) → kept < all → cond (nat_lt kept all) dots [] ≡ dots
dots_where_cut kept all less = grind (arith, nat_tests)

pub cut : (text quote new : List ℕ) (kept : ℕ) → quote ≡ shown (take kept text) → kept < length text
    → 196 ≤ length quote → length quote ≤ 200 → new ≡ quote ++ dots → IsQuoteOf text new
cut text quote new kept quote_is less long short new_is =
    let known : length quote ≡ length (shown (take kept text)) = ap length quote_is in
    let room : length (shown (take kept text)) + length (shown_byte (get_or text kept 0)) ≤ length (shown text) =
    length-flat_map-take shown_byte text kept 0 less in
    let two : length new ≡ length quote + 2 = ap length new_is ∙ length-append quote dots in record {
      kept = kept;
      within = omega arith;
      quoted = new_is ∙ ap (λ front. front ++ dots) quote_is
          ∙ ap (λ end. shown (take kept text) ++ end) (sym (dots_where_cut kept (length text) less));
      whole = λ fits. absurd (omega arith);
      short = omega arith;
    }
