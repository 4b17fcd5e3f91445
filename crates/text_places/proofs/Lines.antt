-- What stands behind the last newline of a text, and before the first.
use Rattle.std.proofs.Common.{◌≡◌, ℕ, ◌-◌, ◌<◌, ◌≤◌, Bool, List, Option, Some, None, true, false, not, cond, length, take, drop, get_or, refl, sym, subst, ap, arith, ◌∙◌, MatchOption, nat_lt}
use Rattle.std.specs.List.{suffix_len, after_last, before_first, position, position_or_len}
use Rattle.std.proofs.lemmas.List.{take_all}
use Rattle.std.proofs.lemmas.Bool.Decides.{nat_tests}
use Rattle.std.proofs.lemmas.List.Sums.{suffix_len_is}
use Rattle.text_places.specs.Positions.{is_newline}

pub behind_last : (text : List ℕ) (start : ℕ) → start ≤ length text
    → ((k : ℕ) → start ≤ k → k < length text → is_newline (get_or text k 0) ≡ false)
    → (0 < start → is_newline (get_or text (start - 1) 0) ≡ true)
    → drop start text ≡ after_last is_newline text
behind_last text start within none newline =
    let e : suffix_len (λ x. not (is_newline x)) text ≡ length text - start =
    suffix_len_is (λ x. not (is_newline x)) text start 0 within
    (λ k from below. ap not (none k from below)) (λ some. ap not (newline some)) in
    let same : length text - (length text - start) ≡ start = omega arith in
    ap (λ n. drop n text) (sym (ap (λ n. length text - n) e ∙ same))

split_at_place : (b : Bool) (text : List ℕ) → nat_lt (position_or_len is_newline text) (length text) ≡ b
    → MatchOption (cond b (Some (position_or_len is_newline text)) None) (text ≡ before_first is_newline text)
    (λ at. (at ≤ length text) × (take at text ≡ before_first is_newline text))
split_at_place true text there = (grind (arith, nat_tests, there), refl)
split_at_place false text there =
    let none : length text ≤ position_or_len is_newline text = grind (arith, nat_tests, there) in
    sym (take_all (position_or_len is_newline text) text none)

-- the text up to where a newline stands, or all of it
pub before_newline : (text : List ℕ)
    → MatchOption (position is_newline text) (text ≡ before_first is_newline text)
    (λ at. (at ≤ length text) × (take at text ≡ before_first is_newline text))
before_newline text = split_at_place (nat_lt (position_or_len is_newline text) (length text)) text refl

pub up_to : (text : List ℕ) (at : ℕ) → Some at ≡ position is_newline text
    → (at ≤ length text) × (take at text ≡ before_first is_newline text)
up_to text at found = subst (λ (place : Option ℕ). MatchOption place (text ≡ before_first is_newline text)
    (λ at. (at ≤ length text) × (take at text ≡ before_first is_newline text))) (sym found) (before_newline text)
